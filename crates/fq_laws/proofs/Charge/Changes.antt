-- The change of a tenant at one entry more, in one table.
use Rattle.std.proofs.Common.{ℕ, ◌≡◌, Bool, true, false, cond, refl, ◌+◌, max, arith, ap, ◌∷◌}
use Rattle.vt_fixed.specs.Rounding.{length_of}
use Rattle.vt_fixed.proofs.Bounds.{length_none}
use Rattle.fq_model.specs.declared.config.Config.{Config}
use Rattle.fq_model.specs.declared.event.Act.{Act}
use Rattle.fq_model.specs.declared.event.Act.TheVariants.{Submit, Take, Report, Done, Withdraw}
use Rattle.fq_model.specs.Limits.{InLimits}
use Rattle.fq_model.specs.History.{History, request_at, is_of_tenant, weight_at}
use Rattle.fq_model.specs.Charge.{charge, taken_weight}
use Rattle.fq_model.specs.Rules.{IsLegal, Fits}
use Rattle.fq_model.specs.declared.event.Entry.{Entry}
use Rattle.fq_laws.specs.Changes.{change_of, Changes}
use Rattle.fq_laws.specs.Words.{one_more}
use Rattle.fq_laws.proofs.Time.Open.{open_submit, open_done, open_withdraw, open_take, open_report, open_quiet}
use Rattle.fq_laws.proofs.Charge.Tenants.{virtual_charge_submit, virtual_charge_taken, virtual_charge_reported, virtual_charge_finished, virtual_charge_withdraw, virtual_charge_quiet, net_charge_submit, net_charge_taken, net_charge_reported, net_charge_finished, net_charge_withdraw, net_charge_quiet}

length_if : (b : Bool) (c w : ℕ) → length_of (cond b c 0) w ≡ cond b (length_of c w) 0
length_if true c w = refl
length_if false c w = length_none w

nothing : (b : Bool) → ◌≡◌ {A = ℕ} (cond b 0 0) 0
nothing true = refl
nothing false = refl

changes_at : (C : Config) (P : History) (who m t : ℕ) (a : Act) → InLimits C → IsLegal C P → Fits C P m a → Changes C P (one_more who m a P) t (change_of C P t a)
changes_at C P who m t (Submit request tenant kind declared label) lim l f = record {
  open_is = omega (arith, open_submit C P who m t request tenant kind declared label lim l f.numbered);
  charge_is = ap (λ x. x + length_of 0 0) (virtual_charge_submit C P who m t request tenant kind declared label l f.numbered);
  net_is = ap (λ x. x + 0) (net_charge_submit C P who m t request tenant kind declared label l f.numbered);
}
changes_at C P who m t (Take worker request estimate) lim l f = record {
  open_is = ap (λ x. x + 0) (open_take P who m t worker request estimate);
  charge_is = rw (length_if (is_of_tenant t (request_at P request)) estimate (weight_at C P t), length_if (is_of_tenant t (request_at P request)) 0 (weight_at C P t), length_none (weight_at C P t)) (omega (arith, virtual_charge_taken C P who m t worker request estimate lim l f, nothing (is_of_tenant t (request_at P request))));
  net_is = omega (arith, net_charge_taken C P who m t worker request estimate lim l f, nothing (is_of_tenant t (request_at P request)));
}
changes_at C P who m t (Report worker request used) lim l f = record {
  open_is = ap (λ x. x + 0) (open_report P who m t worker request used);
  charge_is = rw (length_if (is_of_tenant t (request_at P request)) (charge P request) (taken_weight C P t request), length_if (is_of_tenant t (request_at P request)) (max used (charge P request)) (taken_weight C P t request)) (virtual_charge_reported C P who m t worker request used lim l f.0);
  net_is = net_charge_reported C P who m t worker request used lim l f.0;
}
changes_at C P who m t (Done worker request cost) lim l f = record {
  open_is = omega (arith, open_done C P who m t worker request cost lim l f);
  charge_is = rw (length_if (is_of_tenant t (request_at P request)) (charge P request) (taken_weight C P t request), length_if (is_of_tenant t (request_at P request)) cost (taken_weight C P t request)) (virtual_charge_finished C P who m t worker request cost lim l f);
  net_is = net_charge_finished C P who m t worker request cost lim l f;
}
changes_at C P who m t (Withdraw request) lim l f = record {
  open_is = omega (arith, open_withdraw C P who m t request lim l f);
  charge_is = ap (λ x. x + length_of 0 0) (virtual_charge_withdraw C P who m t request);
  net_is = ap (λ x. x + 0) (net_charge_withdraw C P who m t request);
}
changes_at C P who m t a lim l f = record {
  open_is = ap (λ x. x + 0) (open_quiet P who m t a refl);
  charge_is = ap (λ x. x + length_of 0 0) (virtual_charge_quiet C P who m t a refl);
  net_is = ap (λ x. x + 0) (net_charge_quiet P who m t a refl);
}

-- each entry of a legal history makes the change of its act
pub changes : (C : Config) (P : History) (e : Entry) (t : ℕ) → InLimits C → IsLegal C (e ∷ P) → Changes C P (e ∷ P) t (change_of C P t e.act)
changes C P e t lim l = changes_at C P e.who e.moment t e.act lim l.0 l.3

-- the act of an entry, once it is known
pub entry_is : (e : Entry) (a : Act) → e.act ≡ a → e ≡ record { who = e.who; moment = e.moment; act = a }
entry_is e a is = ap (λ (x : Act). record { who = e.who; moment = e.moment; act = x }) is
