-- The greatest differences of two starts.
use Rattle.std.specs.Prelude.{ℕ, ℤ, ◌≡◌, true, false, if◌then◌else◌, Option, Some, None, option_map}
use Rattle.std.specs.Int.{int_max}
use Rattle.fq_model.specs.declared.config.Config.{Config}
use Rattle.fq_model.specs.History.{History}
use Rattle.fq_model.specs.Gap.{is_shared, shared_differences, first_differences, greatest_of}
use Rattle.tag_difference.specs.declared.found.Found.{Found}
use Rattle.tag_difference.specs.declared.gap.Gap.{Gap}

-- no prefix yet
abbrev pub nothing : Found
nothing = record { largest = None; first = None; shared = false }

-- the greater of d and the number found, if there is one
abbrev pub at_least : ℤ → Option ℤ → ℤ
at_least d None = d
at_least d (Some x) = int_max x d

-- with one prefix more, which has this difference if it is shared
abbrev pub with_difference : Found → Option ℤ → Found
with_difference found None = record found { shared = false }
with_difference found (Some d) = record {
  largest = Some (at_least d found.largest);
  first = if found.shared then found.first else Some (at_least d found.first);
  shared = true;
}

-- the gap, if some prefix is shared, with a bound of this at least
abbrev pub gap_from : Found → ℤ → Option Gap
gap_from found least = option_map (λ x. record { largest = x; bound = at_least least found.first }) found.largest

-- the differences found are those of the history
pub record FoundIn (C : Config) (P : History) (f g : ℕ) (found : Found) : Type 0 where
  pub largest_is : found.largest ≡ greatest_of (shared_differences C P f g)
  pub first_is : found.first ≡ greatest_of (first_differences C P f g)
  pub shared_is : found.shared ≡ is_shared P f g
