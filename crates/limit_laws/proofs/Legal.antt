-- What is legal under some limits, and under others.
use Rattle.std.proofs.Common.{ℕ, ◌<◌, ◌≤◌, [], ◌∷◌, sym, subst, arith}
use Rattle.std.proofs.lemmas.List.Elements.{All-nil, All-cons, All-head, All-tail}
use Rattle.fq_model.specs.declared.config.Config.{Config}
use Rattle.fq_model.specs.declared.event.Act.{Act}
use Rattle.fq_model.specs.declared.event.Act.TheVariants.{Submit, Take, Report, Done, Close, Weight, Workers, Withdraw}
use Rattle.fq_model.specs.declared.event.Entry.{Entry}
use Rattle.fq_model.specs.declared.limits.Limits.{Limits}
use Rattle.fq_model.specs.declared.limits.Limits.TheVariants.{Text}
use Rattle.fq_model.specs.History.{History}
use Rattle.fq_model.specs.Limits.{IsWithinOwn, IsWithinText, greatest_weight}
use Rattle.fq_model.specs.Rules.{Fits, FitsSubmit, FitsTake}
use Rattle.fq_laws.proofs.Limits.{texts_keep_least}
use Rattle.limit_laws.specs.Laws.{NumbersKeepLimits, NumbersKeepText, TextKeepsLimits, LegalWeights, FitsUnderLimits, LegalUnderLimits, LegalUnderText, TextIsLegal}
use Rattle.limit_laws.specs.Words.{with_limits, GivesAtMost, WeightsAtMost}
use Rattle.limit_laws.proofs.Numbers.{pool_same}
use Rattle.limit_laws.proofs.Keys.{chosen_same}

-- ---- acts that fit

fits_submit : (C : Config) (l : Limits) (P : History) (request tenant kind declared : ℕ) → FitsSubmit C P request tenant kind declared → FitsSubmit (with_limits l C) P request tenant kind declared
fits_submit C l P request tenant kind declared f = record {
  open_still = f.open_still;
  numbered = f.numbered;
  tenant_known = f.tenant_known;
  kind_known = f.kind_known;
  declared_low = f.declared_low;
  declared_high = f.declared_high;
  slot = f.slot;
  room = f.room;
}

fits_take : (C : Config) (l : Limits) (P : History) (m worker request estimate : ℕ) → FitsTake C P m worker request estimate → FitsTake (with_limits l C) P m worker request estimate
fits_take C l P m worker request estimate f = record {
  worker_known = subst (λ n. worker < n) (sym (pool_same C l P)) f.worker_known;
  free = f.free;
  asked = f.asked;
  chosen = chosen_same C l P m worker request estimate f.asked f.chosen;
}

pub fits_under : FitsUnderLimits
fits_under C l P m (Submit request tenant kind declared label) g f = fits_submit C l P request tenant kind declared f
fits_under C l P m (Take worker request estimate) g f = fits_take C l P m worker request estimate f
fits_under C l P m (Report worker request used) g f = f
fits_under C l P m (Done worker request cost) g f = f
fits_under C l P m Close g f = f
fits_under C l P m (Weight tenant weight) g f =
    record { tenant_known = f.tenant_known; weight_in_range = (f.weight_in_range.0, g); room = f.room }
fits_under C l P m (Workers count) g f = record { count_in_range = f.count_in_range; room = f.room }
fits_under C l P m (Withdraw request) g f = f

-- ---- histories

pub legal_under : LegalUnderLimits
legal_under C l [] g h = tt
legal_under C l (e ∷ P) g h =
    let older = All-tail (λ (x : Entry). GivesAtMost (greatest_weight l) x.act) e P g in
    let here = All-head (λ (x : Entry). GivesAtMost (greatest_weight l) x.act) e P g in
    (legal_under C l P older h.0, h.1, h.2, fits_under C l P e.moment e.act here h.3)

allowed_at : (C : Config) (P : History) (m : ℕ) (a : Act) → Fits C P m a → GivesAtMost (greatest_weight C.limits) a
allowed_at C P m (Weight tenant weight) f = f.weight_in_range.1
allowed_at C P m _ f = tt

pub legal_allowed : LegalWeights
legal_allowed C [] h = All-nil (λ (x : Entry). GivesAtMost (greatest_weight C.limits) x.act)
legal_allowed C (e ∷ P) h =
    All-cons (λ (x : Entry). GivesAtMost (greatest_weight C.limits) x.act) e P
    (allowed_at C P e.moment e.act h.3) (legal_allowed C P h.0)

gives_more : (n k : ℕ) (a : Act) → n ≤ k → GivesAtMost n a → GivesAtMost k a
gives_more n k (Weight tenant weight) b g = omega arith
gives_more n k _ b g = tt

-- what is no more than one weight is no more than a greater one
pub at_most_more : (n k : ℕ) (P : History) → n ≤ k → WeightsAtMost n P → WeightsAtMost k P
at_most_more n k P b g = λ i d lt. gives_more n k _ b (g i d lt)

pub legal_text : LegalUnderText
legal_text C P g h = legal_under C Text P g h

pub text_legal : TextIsLegal
text_legal C l P h =
    let D = with_limits Text C in
    legal_under D l P (at_most_more (greatest_weight Text) (greatest_weight l) P (texts_keep_least l).weight (legal_allowed D P h)) h

-- ---- configurations

pub keep_limits : NumbersKeepLimits
keep_limits C l h own = record {
  workers = h.workers;
  tenants = h.tenants;
  weights = h.weights;
  kinds = h.kinds;
  pairs = h.pairs;
  entries = h.entries;
  requests = h.requests;
  initial = h.initial;
  own = own;
}

within_own : (C : Config) → IsWithinText C → IsWithinOwn (with_limits Text C)
within_own C t = record {
  workers = t.workers;
  tenants = t.tenants;
  weights = λ k d lt. (t.weights k d lt).1;
  pairs = t.pairs;
  entries = t.entries;
  requests = t.requests;
}

pub keep_text : NumbersKeepText
keep_text C h t = keep_limits C Text h (within_own C t)

own_of_text : (C : Config) (l : Limits) → IsWithinOwn (with_limits Text C) → IsWithinOwn (with_limits l C)
own_of_text C l h =
    let all = texts_keep_least l in
    record {
      workers = omega (arith, h.workers, all.workers);
      tenants = omega (arith, h.tenants, all.tenants);
      weights = λ k d lt. omega (arith, h.weights k d lt, all.weight);
      pairs = omega (arith, h.pairs, all.pairs);
      entries = omega (arith, h.entries, all.entries);
      requests = omega (arith, h.requests, all.requests);
    }

pub text_keeps : TextKeepsLimits
text_keeps C l h = keep_limits (with_limits Text C) l h (own_of_text C l h.own)
