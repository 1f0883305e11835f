use Rattle.std.proofs.Common.{ℕ, ◌≤◌, ◌≡◌, if◌then◌else◌, List, [], map, length, get_or, position, Option, Some, None, sym, ap, ◌∙◌, arith}
use Rattle.std.proofs.Math.ListN.{set, length-set, get_or-map}
use Rattle.std.proofs.lemmas.List.{length-replicate}
use Rattle.std.proofs.lemmas.List.Quantifiers.{position-Some}
use Rattle.std.specs.String.{string_bytes}
use Rattle.command_line.specs.declared.options.OptionRow as code
use Rattle.program_model.specs.declared.argument.Argument.{Argument}
use Rattle.program_model.specs.Options.{Within, Required, OptionRow, argument_for}
use Rattle.command_line.specs.Given.{seen_given}
use Rattle.command_line.specs.Rows.{seen_row, has_name}
use Rattle.command_line.proofs.Lists.{length_map, position-map}
use Rattle.command_line.proofs.Words.{rest_shorter}
use Rattle.command_line.proofs.Arguments.{after_start, after_unknown, after_twice, after_bad, after_step, after_end, with_absent}
use Rattle.command_line.proofs.Defaults.{filled_start, filled_more, filled_stop, filled_all}
use Rattle.command_line.proofs.Ranges.{values_in-range}
use Rattle.command_line.proofs.Lengths.{value_there}
use Rattle.command_line.proofs.options.values_in.Goals as goal

-- an option that is no row's
no_option : OptionRow
no_option = record { name = []; values = Within 0 0; absent = Required }

-- the place of a name among the rows, as the definitions see them
place_seen : (rows : List code.OptionRow) (name : List ℕ) (found place : Option ℕ) → found ≡ position (λ row. has_name name (seen_row row)) rows → found ≡ place → position (has_name name) (map seen_row rows) ≡ place
place_seen rows name found place is was = position-map (has_name name) seen_row rows ∙ (sym is ∙ was)

-- the value that a text spells at a row, by the definitions
argument_seen : (rows : List code.OptionRow) (k : ℕ) (d : code.OptionRow) (text : List ℕ) (found argument : Option Argument) → found ≡ argument_for (seen_row (get_or rows k d)).values text → found ≡ argument → argument_for (get_or (map seen_row rows) k (seen_row d)).values text ≡ argument
argument_seen rows k d text found argument is was = ap (λ row. argument_for row.values text) (get_or-map seen_row rows k d) ∙ (sym is ∙ was)

pub loop-given-init : goal.loop-given-init
loop-given-init g c =
    let long : length (map seen_row c.args.rows.now) ≡ g.row.N = omega (arith, length_map seen_row c.args.rows.now) in
    (length-replicate g.row.N None ∙ sym c.requires.count, after_start (map seen_row c.args.rows.now) g.row.N (map string_bytes c.args.words.now) long)

pub returns-in_err-k-clause-values : goal.returns-in_err-k-clause-values
returns-in_err-k-clause-values g c =
    let given = seen_given c.in-Some.given in
    let place = place_seen c.args.rows.now given.name c.place_of.result None c.place_of.ensures c.in_err-k.was in
    let unknown = after_unknown (map seen_row c.args.rows.now) c.loop-given.values (map string_bytes c.loop-given.left.now) given (map string_bytes c.in-Some.more.now) (sym c.in-Some.ensures) place in
    c.from_residual.ensures ∙ sym (c.loop-given.invariant.1 ∙ unknown)

pub returns-then-is_some-clause-values : goal.returns-then-is_some-clause-values
returns-then-is_some-clause-values g c =
    let given = seen_given c.in-Some.given in
    let place = place_seen c.args.rows.now given.name c.place_of.result (Some c.in_ok-k.k) c.place_of.ensures c.in_ok-k.was in
    let long : length c.loop-given.values ≡ length (map seen_row c.args.rows.now) = omega (arith, length_map seen_row c.args.rows.now) in
    let twice = after_twice (map seen_row c.args.rows.now) c.loop-given.values (map string_bytes c.loop-given.left.now) given (map string_bytes c.in-Some.more.now) c.in_ok-k.k no_option (sym c.in-Some.ensures) place long (rw (value_there c.loop-given.values c.in_ok-k.k c.index-values-k.result (omega (arith, long, (position-Some (has_name given.name) (map seen_row c.args.rows.now) c.in_ok-k.k no_option place).0))) at (sym c.if-is_some.ensures)) in
    sym (c.loop-given.invariant.1 ∙ twice)

pub returns-in_err-argument-clause-values : goal.returns-in_err-argument-clause-values
returns-in_err-argument-clause-values g c =
    let given = seen_given c.in-Some.given in
    let place = place_seen c.args.rows.now given.name c.place_of.result (Some c.in_ok-k.k) c.place_of.ensures c.in_ok-k.was in
    let argument = argument_seen c.args.rows.now c.in_ok-k.k _ given.text c.argument_for.result None c.argument_for.ensures c.in_err-argument.was in
    let long : length c.loop-given.values ≡ length (map seen_row c.args.rows.now) = omega (arith, length_map seen_row c.args.rows.now) in
    let bad = after_bad (map seen_row c.args.rows.now) c.loop-given.values (map string_bytes c.loop-given.left.now) given (map string_bytes c.in-Some.more.now) c.in_ok-k.k _ (sym c.in-Some.ensures) place long argument in
    c.from_residual-in_err-argument.ensures ∙ sym (c.loop-given.invariant.1 ∙ bad)

pub loop-given-smaller : goal.loop-given-smaller
loop-given-smaller g c =
    let left = c.loop-given.left.now in
    let more = c.in-Some.more.now in
    let shorter = rest_shorter (map string_bytes left) (seen_given c.in-Some.given) (map string_bytes more) (sym c.in-Some.ensures) in
    omega (arith, shorter, length_map string_bytes left, length_map string_bytes more)

pub loop-given-preserved : goal.loop-given-preserved
loop-given-preserved g c =
    let given = seen_given c.in-Some.given in
    let place = place_seen c.args.rows.now given.name c.place_of.result (Some c.in_ok-k.k) c.place_of.ensures c.in_ok-k.was in
    let argument = argument_seen c.args.rows.now c.in_ok-k.k _ given.text c.argument_for.result (Some c.in_ok-argument.argument) c.argument_for.ensures c.in_ok-argument.was in
    let long : length c.loop-given.values ≡ length (map seen_row c.args.rows.now) = omega (arith, length_map seen_row c.args.rows.now) in
    let step = after_step (map seen_row c.args.rows.now) c.loop-given.values (map string_bytes c.loop-given.left.now) given (map string_bytes c.in-Some.more.now) c.in_ok-k.k _ c.in_ok-argument.argument (sym c.in-Some.ensures) c.requires.distinct place long (rw (value_there c.loop-given.values c.in_ok-k.k c.index-values-k.result (omega (arith, long, (position-Some (has_name given.name) (map seen_row c.args.rows.now) c.in_ok-k.k no_option place).0))) at (sym c.if-is_some.ensures)) argument in
    (length-set c.loop-given.values c.in_ok-k.k (Some c.in_ok-argument.argument) ∙ c.loop-given.invariant.0, c.loop-given.invariant.1 ∙ step)

pub loop-k-init : goal.loop-k-init
loop-k-init g c =
    let rows = map seen_row c.args.rows.now in
    let ends = after_end rows c.loop-given.values (map string_bytes c.loop-given.left.now) (sym c.in_default.ensures) in
    let ended = ap (λ b. if b then with_absent rows c.loop-given.values else None) (sym c.if-not-is_end.ensures) in
    (c.loop-given.invariant.0, c.loop-given.invariant.1 ∙ (ends ∙ (ended ∙ filled_start rows c.loop-given.values)))

pub returns-in_err-values-clause-values : goal.returns-in_err-values-clause-values
returns-in_err-values-clause-values g c =
    let stop = filled_stop c.args.rows.now c.loop-k.values c.loop-k.k _ (omega arith) (omega arith) (rw (value_there c.loop-k.values c.loop-k.k c.index-values-k-in-loop-k.result (omega (arith, c.loop-k.invariant.0))) at (sym c.or_absent.ensures ∙ c.in_err-values.was)) in
    c.from_residual-in_err-values.ensures ∙ sym (c.loop-k.invariant.1 ∙ stop)

pub loop-k-preserved : goal.loop-k-preserved
loop-k-preserved g c =
    let long : length (set c.loop-k.values c.loop-k.k c.in_ok-values.field-0) ≡ length c.args.rows.now = omega (arith, length-set c.loop-k.values c.loop-k.k c.in_ok-values.field-0) in
    (long, c.loop-k.invariant.1 ∙ filled_more c.args.rows.now c.loop-k.values c.loop-k.k _ c.in_ok-values.field-0 (omega arith) (omega arith) (rw (value_there c.loop-k.values c.loop-k.k c.index-values-k-in-loop-k.result (omega (arith, c.loop-k.invariant.0))) at (sym c.or_absent.ensures ∙ c.in_ok-values.was)))

pub returns-clause-values : goal.returns-clause-values
returns-clause-values g c =
    let rows = map seen_row c.args.rows.now in
    let past : length rows ≤ c.loop-k.k = omega (arith, length_map seen_row c.args.rows.now) in
    sym (c.loop-k.invariant.1 ∙ filled_all rows c.loop-k.values c.loop-k.k past (omega arith))

pub returns-clause-range : goal.returns-clause-range
returns-clause-range g c =
    let rows = map seen_row c.args.rows.now in
    let past : length rows ≤ c.loop-k.k = omega (arith, length_map seen_row c.args.rows.now) in
    values_in-range rows (map string_bytes c.args.words.now) c.loop-k.values (c.loop-k.invariant.1 ∙ filled_all rows c.loop-k.values c.loop-k.k past (omega arith))
