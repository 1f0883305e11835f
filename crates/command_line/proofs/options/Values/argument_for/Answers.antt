use Rattle.std.proofs.Common.{None, Some, sym, ap, ◌∙◌, rules}
use Rattle.program_model.specs.Options.{argument_for}
use Rattle.command_line.specs.Rows.{seen_values}
use Rattle.command_line.proofs.Words.{place_among_words, number_within, name_named}
use Rattle.command_line.proofs.options.Values.argument_for.Goals as goal

pub returns-then-not-is_value : goal.returns-then-not-is_value
unfolding argument_for
returns-then-not-is_value c = search rules

pub returns-in_err-number_within-in-Within : goal.returns-in_err-number_within-in-Within
returns-in_err-number_within-in-Within c =
    let seen = ap (λ v. argument_for (seen_values v) c.args.text.now) c.in-Within.is in
    c.from_residual.ensures ∙ sym (seen ∙ number_within c.in-Within.low c.in-Within.high c.args.text.now None (sym c.if-not-is_value.ensures) (sym c.in_err-number_within-in-Within.was ∙ c.number_within.ensures))

pub returns-in_ok-number_within-in-Within : goal.returns-in_ok-number_within-in-Within
returns-in_ok-number_within-in-Within c =
    let seen = ap (λ v. argument_for (seen_values v) c.args.text.now) c.in-Within.is in
    sym (seen ∙ number_within c.in-Within.low c.in-Within.high c.args.text.now (Some c.in_ok-number_within-in-Within.field-0) (sym c.if-not-is_value.ensures) (sym c.in_ok-number_within-in-Within.was ∙ c.number_within.ensures))

pub returns-in_err-place_among-in-Among : goal.returns-in_err-place_among-in-Among
returns-in_err-place_among-in-Among c =
    let seen = ap (λ v. argument_for (seen_values v) c.args.text.now) c.in-Among.is in
    c.from_residual-in_err-place_among-in-Among.ensures ∙ sym (seen ∙ place_among_words c.in-Among.words.now c.args.text.now None (sym c.if-not-is_value.ensures) (sym c.in_err-place_among-in-Among.was ∙ c.place_among.ensures))

pub returns-in_ok-place_among-in-Among : goal.returns-in_ok-place_among-in-Among
returns-in_ok-place_among-in-Among c =
    let seen = ap (λ v. argument_for (seen_values v) c.args.text.now) c.in-Among.is in
    sym (seen ∙ place_among_words c.in-Among.words.now c.args.text.now (Some c.in_ok-place_among-in-Among.field-0) (sym c.if-not-is_value.ensures) (sym c.in_ok-place_among-in-Among.was ∙ c.place_among.ensures))

pub returns-in_err-new-in-Named : goal.returns-in_err-new-in-Named
returns-in_err-new-in-Named c =
    let seen = ap (λ v. argument_for (seen_values v) c.args.text.now) c.in-Named.is in
    c.from_residual-in_err-new-in-Named.ensures ∙ sym (seen ∙ name_named c.args.text.now None (sym c.if-not-is_value.ensures) (sym c.in_err-new-in-Named.was ∙ c.new.ensures))

pub returns-in_ok-new-in-Named : goal.returns-in_ok-new-in-Named
returns-in_ok-new-in-Named c =
    let seen = ap (λ v. argument_for (seen_values v) c.args.text.now) c.in-Named.is in
    sym (seen ∙ name_named c.args.text.now (Some c.in_ok-new-in-Named.field-0) (sym c.if-not-is_value.ensures) (sym c.in_ok-new-in-Named.was ∙ c.new.ensures))
