use Rattle.std.proofs.Common.{ℕ, ◌+◌, ◌≡◌, ◌∙◌, Bool, true, false, if◌then◌else◌, List, [], ◌∷◌, ◌++◌, length, is_some, Option, Some, None, Ok, Err, refl, sym, ap, arith, length-append}
use Rattle.std.proofs.lemmas.List.{length-map}
use Rattle.fq_model.specs.Names.{number_among, number_by_appearance, with_appearance}
use Rattle.program_model.specs.declared.fault.TraceKind.TheVariants.{TooMany}
use Rattle.program_model.specs.declared.trace.TraceRow.{TraceRow}
use Rattle.program_model.specs.Trace.{with_row}
use Rattle.program_model.specs.TraceGrammar.{not_too_many}
use Rattle.trace_reader.specs.Reading.{trace_in, are_too_many}
use Rattle.trace_reader.proofs.reading.add_row.Goals.{then-is_some, else-is_some, in-Some, in-None+in_ok-kind-in-None, Joined-is_some}
use Rattle.trace_reader.proofs.reading.add_row.Goals as goal

-- the name among the kinds, where it is found and where it is new
module _ (kinds : List (List ℕ)) (name : List ℕ) (found : Option ℕ) (number : found ≡ number_among kinds name) where
  kinds_where : (some : Bool) → is_some found ≡ some → with_appearance kinds name ≡ (if some then kinds else kinds ++ name ∷ [])
  kinds_where some is = rw (← number, is) refl

  counted_old : (some : Bool) (n count : ℕ) → some ≡ is_some found → some ≡ true → n ≡ length kinds → count ≡ n → count ≡ length (with_appearance kinds name)
  counted_old some n count is old long same = same ∙ long ∙ sym (ap length (kinds_where true (sym is ∙ old)))

  counted_new : (some : Bool) (n count : ℕ) → some ≡ is_some found → some ≡ false → n ≡ length kinds → count ≡ n + 1 → count ≡ length (with_appearance kinds name)
  counted_new some n count is new long more = omega (arith, length-append kinds (name ∷ []), ap length (kinds_where false (sym is ∙ new)))

  kind_old : (k kind : ℕ) → found ≡ Some k → kind ≡ k → kind ≡ number_by_appearance kinds name
  kind_old k kind is same = rw (← number, is) same

  kind_new : (kind : ℕ) → found ≡ None → kind ≡ length kinds → kind ≡ number_by_appearance kinds name
  kind_new kind is last = rw (← number, is) last

-- the limits, by the numbers of tenants, kinds and requests
module _ (tenants : List (List ℕ × ℕ)) (kinds : List (List ℕ)) (rows : List TraceRow) (moment submitter tenant : ℕ) (name : List ℕ) (declared cost n count r : ℕ) (told : Bool)
    (tenants_are : n ≡ length tenants) (kinds_are : count ≡ length (with_appearance kinds name)) (rows_are : r ≡ length rows) (told_is : told ≡ are_too_many n count (r + 1)) where
  within : (b : Bool) → told ≡ b → not_too_many (with_row (trace_in tenants kinds rows) moment submitter tenant name declared cost)
      ≡ (if b then Err TooMany else Ok (with_row (trace_in tenants kinds rows) moment submitter tenant name declared cost))
  within b is =
      let row : TraceRow = record { moment = moment; submitter = submitter; tenant = tenant; kind = number_by_appearance kinds name; declared = declared; cost = cost } in
      let more : length (rows ++ row ∷ []) ≡ r + 1 = omega (arith, rows_are, length-append rows (row ∷ [])) in
      rw (length-map tenants (λ t. t.0), ← tenants_are, ← kinds_are, more, ← told_is, is) refl

  added : (tenants2 : List (List ℕ × ℕ)) (kinds2 : List (List ℕ)) (rows1 rows2 : List TraceRow) (kind : ℕ) → told ≡ false → tenants2 ≡ tenants → kinds2 ≡ with_appearance kinds name
      → rows1 ≡ rows → rows2 ≡ rows1 ++ record { moment = moment; submitter = submitter; tenant = tenant; kind = kind; declared = declared; cost = cost } ∷ [] → kind ≡ number_by_appearance kinds name
      → not_too_many (with_row (trace_in tenants kinds rows) moment submitter tenant name declared cost) ≡ Ok (trace_in tenants2 kinds2 rows2)
  added tenants2 kinds2 rows1 rows2 kind few tenants_is kinds_is rows_is longer kind_is = within false few ∙ rw (longer, rows_is, kinds_is, tenants_is, kind_is) refl

kinds_counted : (c : Joined-is_some) → c.if-is_some.kinds ≡ length (with_appearance c.draft.inside.kinds c.args.name.now)
kinds_counted c =
    elim c.if-is_some.branch [
      | then-is_some w ↦ counted_old c.draft.inside.kinds c.args.name.now c.find-found.result c.find-found.ensures.number c.is_some.result w.len-kinds.result c.if-is_some.kinds
          c.is_some.ensures w.if-is_some.true w.len-kinds.ensures.value w.kinds-is
      | else-is_some w ↦ counted_new c.draft.inside.kinds c.args.name.now c.find-found.result c.find-found.ensures.number c.is_some.result w.len.result c.if-is_some.kinds
          c.is_some.ensures w.if-is_some.false w.len.ensures.value w.kinds-is
    ]

pub returns-then-are_too_many : goal.returns-then-are_too_many
returns-then-are_too_many c =
    let d = c.draft.inside in
    rw (← c.draft.view_is) (within d.tenants d.kinds d.rows.items c.args.moment c.args.submitter c.args.tenant c.args.name.now c.args.declared c.args.cost c.len-2.result c.if-is_some.kinds c.len-3.result c.are_too_many.result
    c.len-2.ensures.value (kinds_counted (goal.at.returns-then-are_too_many c).Joined-is_some) (c.len-3.ensures ∙ d.rows.ok.0) c.are_too_many.ensures true c.if-are_too_many.true)

pub returns : goal.returns
returns c =
    let d = c.draft.inside in
    let e = c.match-found.draft-inside in
    let name = c.args.name.now in
    let is = added d.tenants d.kinds d.rows.items c.args.moment c.args.submitter c.args.tenant name c.args.declared c.args.cost c.len-2.result c.if-is_some.kinds c.len-3.result c.are_too_many.result
    c.len-2.ensures.value (kinds_counted (goal.at.returns c).Joined-is_some) (c.len-3.ensures ∙ d.rows.ok.0) c.are_too_many.ensures in
    rw (← c.draft.view_is) (elim c.match-found.branch [
      | in-Some w ↦ is e.tenants e.kinds e.rows.items c.push.new.self.items c.match-found.kind c.if-are_too_many.false (ap (λ x. x.tenants) w.draft-inside-is)
          (ap (λ x. x.kinds) w.draft-inside-is ∙ sym (kinds_where d.kinds name c.find-found.result c.find-found.ensures.number true (ap is_some w.in-Some.is)))
          (ap (λ x. x.rows.items) w.draft-inside-is) c.in_ok-push.ensures.items (kind_old d.kinds name c.find-found.result c.find-found.ensures.number w.in-Some.kind c.match-found.kind w.in-Some.is w.kind-is)
      | in-None+in_ok-kind-in-None w ↦ is e.tenants e.kinds e.rows.items c.push.new.self.items c.match-found.kind c.if-are_too_many.false (ap (λ x. x.tenants) w.draft-inside-is)
          (ap (λ x. x.kinds) w.draft-inside-is ∙ w.in_ok-kind-in-None.ensures.added ∙ sym (kinds_where d.kinds name c.find-found.result c.find-found.ensures.number false (ap is_some w.in-None.is)))
          (ap (λ x. x.rows.items) w.draft-inside-is) c.in_ok-push.ensures.items (kind_new d.kinds name c.find-found.result c.find-found.ensures.number c.match-found.kind w.in-None.is (w.kind-is ∙ w.in_ok-kind-in-None.ensures.number))
    ])
