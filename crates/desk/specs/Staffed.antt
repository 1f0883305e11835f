-- Who makes which entries: with s submitters these are the callers below s, and worker i is the caller s + i.
use Rattle.std.specs.Prelude.{ℕ, ◌+◌, ◌<◌, ◌≡◌, [], ◌∷◌}
use Rattle.fq_model.specs.declared.event.Act.{Act}
use Rattle.fq_model.specs.declared.event.Act.TheVariants.{Take, Report, Done}
use Rattle.fq_model.specs.History.{History}
use Rattle.desk.specs.declared.floor.Crew.{Crew}
use Rattle.desk.specs.declared.asking.Ask.{Ask}
use Rattle.desk.specs.declared.asking.Ask.TheVariants as ask

-- a Take, a Report and a Done are their worker's, and each other act is a submitter's
abbrev pub IsMadeBy : ℕ → ℕ → Act → Type 0
IsMadeBy s who (Take worker request estimate) = who ≡ s + worker
IsMadeBy s who (Report worker request used) = who ≡ s + worker
IsMadeBy s who (Done worker request cost) = who ≡ s + worker
IsMadeBy s who _ = who < s

-- each entry is made by the caller that may make it
abbrev pub IsStaffed : ℕ → History → Type 0
IsStaffed s [] = Unit {0}
IsStaffed s (e ∷ P) = IsMadeBy s e.who e.act × IsStaffed s P

-- a caller calls as the worker that it is, or as a submitter
abbrev pub MayAsk : {J : Type 0} → Crew → ℕ → Ask J → Type 0
MayAsk crew who (ask.Take moment worker) = who ≡ crew.submitters + worker
MayAsk crew who (ask.Report moment worker used) = who ≡ crew.submitters + worker
MayAsk crew who (ask.Done moment worker cost) = who ≡ crew.submitters + worker
MayAsk crew who _ = who < crew.submitters
