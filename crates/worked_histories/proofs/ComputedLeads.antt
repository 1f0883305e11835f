-- The measured gap of a short history, computed: each definition is repeated over the numbers below n.
use Rattle.std.proofs.Common.{ℕ, ◌+◌, ◌*◌, ◌≡◌, Bool, not, ◌&&◌, if◌then◌else◌, List, refl, [], ◌∷◌, Option, ℤ, pos}
use Rattle.std.specs.Prelude.{is_some, ◌-ℤ◌, option_map}
use Rattle.fq_model.specs.declared.config.Config.{Config}
use Rattle.fq_model.specs.declared.event.Act.{Act}
use Rattle.fq_model.specs.History.{History}
use Rattle.fq_model.specs.Time.{last_moment}
use Rattle.fq_model.specs.Charge.{greatest}
use Rattle.fq_model.specs.Gap.{lengths_in_bound, greatest_with, greatest_of, largest_difference, TagGap}
use Rattle.fq_model.specs.Lead.{may_rise, may_fall, doubt, head_length, length_of_head, takes_of, is_lead_take, longest_of, shortest_of, measured_lead, first_leads, take_lengths, take_doubts, lead_bound, measured_gap, over_running}
use Rattle.worked_histories.proofs.Computed.Histories.{IsShort, shorter, head_within, head_is, start_within, start_is, computing}
use Rattle.worked_histories.proofs.ComputedGaps.{is_shared_within, is_shared_is, shared_within, shared_is, computing_gap}

-- ---- leads

unfoldable pub lead_within : ℕ → Config → History → History → ℕ → ℕ → ℤ
lead_within n C H P f g =
    pos (start_within n C P (last_moment P) f + may_rise (longest_of C H f) C P f)
    -ℤ (pos (start_within n C P (last_moment P) g) -ℤ pos (may_fall (shortest_of C H g) C P g))

lead_is : (n k : ℕ) (C : Config) (H P : History) (f g : ℕ) → IsShort n k P → measured_lead C H P f g ≡ lead_within n C H P f g
unfolding lead_within
lead_is n k C H P f g s = rw (start_is n k C P (last_moment P) f s, start_is n k C P (last_moment P) g s) refl

unfoldable pub leads_within : ℕ → Config → History → History → ℕ → ℕ → List ℤ
leads_within n C H [] f g = []
leads_within n C H (e ∷ P) f g =
    if is_shared_within n (e ∷ P) f g && not (is_shared_within n P f g)
    then lead_within n C H (e ∷ P) f g ∷ leads_within n C H P f g
    else leads_within n C H P f g

leads_are : (n k : ℕ) (C : Config) (H P : History) (f g : ℕ) → IsShort n k P → first_leads C H P f g ≡ leads_within n C H P f g
unfolding first_leads leads_within
leads_are n k C H [] f g s = refl
leads_are n k C H (e ∷ P) f g s =
    let older : IsShort n k P = shorter n k e P s in
    rw (is_shared_is n k (e ∷ P) f g s, is_shared_is n k P f g older, lead_is n k C H (e ∷ P) f g s, leads_are n k C H P f g older) refl

-- ---- Takes

unfoldable pub head_length_within : ℕ → Config → History → ℕ → ℕ
head_length_within n C P t = length_of_head C P t (head_within n P t)

head_length_is : (n k : ℕ) (C : Config) (P : History) (t : ℕ) → IsShort n k P → head_length C P t ≡ head_length_within n C P t
unfolding head_length_within
head_length_is n k C P t s = rw (head_is n k P t s) refl

unfoldable pub take_within : ℕ → History → Act → ℕ → ℕ → Bool
take_within n P a f g = is_shared_within n P f g && is_some (takes_of f P a)

take_is : (n k : ℕ) (P : History) (a : Act) (f g : ℕ) → IsShort n k P → is_lead_take P a f g ≡ take_within n P a f g
unfolding take_within
take_is n k P a f g s = rw (is_shared_is n k P f g s) refl

unfoldable pub lengths_within : ℕ → Config → History → ℕ → ℕ → List ℕ
lengths_within n C [] f g = []
lengths_within n C (e ∷ P) f g =
    if take_within n P e.act f g
    then head_length_within n C P f ∷ head_length_within n C P g ∷ lengths_within n C P f g
    else lengths_within n C P f g

lengths_are : (n k : ℕ) (C : Config) (P : History) (f g : ℕ) → IsShort n k P → take_lengths C P f g ≡ lengths_within n C P f g
unfolding take_lengths lengths_within
lengths_are n k C [] f g s = refl
lengths_are n k C (e ∷ P) f g s =
    let older : IsShort n k P = shorter n k e P s in
    rw (take_is n k P e.act f g older, head_length_is n k C P f older, head_length_is n k C P g older, lengths_are n k C P f g older) refl

unfoldable pub doubts_within : ℕ → Config → History → History → ℕ → ℕ → List ℕ
doubts_within n C H [] f g = []
doubts_within n C H (e ∷ P) f g =
    if take_within n P e.act f g
    then doubt (longest_of C H f) (shortest_of C H g) C (e ∷ P) f g ∷ doubts_within n C H P f g
    else doubts_within n C H P f g

doubts_are : (n k : ℕ) (C : Config) (H P : History) (f g : ℕ) → IsShort n k P → take_doubts C H P f g ≡ doubts_within n C H P f g
unfolding take_doubts doubts_within
doubts_are n k C H [] f g s = refl
doubts_are n k C H (e ∷ P) f g s = rw (take_is n k P e.act f g (shorter n k e P s), doubts_are n k C H P f g (shorter n k e P s)) refl

-- ---- the gap

unfoldable pub measured_within : ℕ → Config → History → ℕ → ℕ → Option TagGap
measured_within n C H f g =
    option_map
    (λ largest. record {
      largest = largest;
      bound = greatest_with
          (pos (lengths_in_bound C.policy * greatest (lengths_within n C H f g) + greatest (doubts_within n C H H f g)))
          (leads_within n C H H f g);
    })
    (greatest_of (shared_within n C H f g))

pub measured_is : (n k : ℕ) (C : Config) (H : History) (f g : ℕ) → IsShort n k H → measured_gap C H f g ≡ measured_within n C H f g
unfolding measured_gap largest_difference lead_bound measured_within
measured_is n k C H f g s = rw (shared_is n k C H f g s, lengths_are n k C H f g s, doubts_are n k C H H f g s, leads_are n k C H H f g s) refl

-- ---- the definitions that an example opens

-- the line `unfolding computing_lead` opens all of these
unfoldable pub computing_lead : Unit {0}
unfolding computing computing_gap over_running longest_of shortest_of lead_within leads_within head_length_within take_within lengths_within doubts_within measured_within
computing_lead = tt
