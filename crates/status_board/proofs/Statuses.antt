-- Statuses and their words.
use Rattle.std.proofs.Common.{◌≡◌, ℕ, ◌+◌, ◌*◌, ◌/◌, ◌%◌, ◌<◌, List, [], ◌∷◌, length, sym, refl, ap, ◌∙◌, arith, pos, ℤ, Option, Some, None, unwrap_or}
use Rattle.std.proofs.lemmas.Int.{ints}
use Rattle.std.proofs.lemmas.List.{length-reverse}
use Rattle.std.specs.Prelude.{slice_index}
use Rattle.fq_laws.proofs.History.Counts.{waiting_none, running_none}
use Rattle.fq_laws.proofs.Keys.Pace.{virtual_time_nil}
use Rattle.fq_model.specs.declared.config.Config.{Config}
use Rattle.fq_model.specs.declared.event.Entry.{Entry}
use Rattle.fq_model.specs.declared.parts.Status.{Status}
use Rattle.fq_model.specs.History.{history_of, waiting, running}
use Rattle.fq_model.specs.Status.{status_of}
use Rattle.fq_model.specs.Time.{last_moment}
use Rattle.status_board.specs.Words.{status_at, status_in, virtual_now, words_of, words_in}

module _ (C : Config) (P : List Entry) (s : Status) (is : s ≡ status_at C P) where
  pub entries_are : s.entries ≡ length P
  unfolding status_of
  entries_are = ap (λ (t : Status). t.entries) is ∙ length-reverse P

  pub time_is : s.vtime ≡ pos (virtual_now C P)
  unfolding status_of
  time_is = ap (λ (t : Status). t.vtime) is

  time_number : (low high : ℕ) → s.vtime ≡ pos (high * 18446744073709551616 + low) → virtual_now C P ≡ high * 18446744073709551616 + low
  time_number low high halved = let e : pos (virtual_now C P) ≡ pos (high * 18446744073709551616 + low) = sym time_is ∙ halved in omega (arith, ints)

  -- the words that are written of a status are those of its history
  pub words_are : (low high : ℕ) → s.vtime ≡ pos (high * 18446744073709551616 + low) → low < 18446744073709551616 → s.moment ∷ low ∷ high ∷ s.waiting ∷ s.running ∷ [] ≡ words_of C P
  unfolding status_of
  words_are low high halved less =
      let n = time_number low high halved in let V : ℕ = virtual_now C P in
      let a : s.moment ≡ last_moment (history_of P) = ap (λ (t : Status). t.moment) is in
      let b : low ≡ V % 18446744073709551616 = omega arith in
      let c : high ≡ V / 18446744073709551616 = omega arith in
      let d : s.waiting ≡ waiting (history_of P) = ap (λ (t : Status). t.waiting) is in
      let e : s.running ≡ running (history_of P) = ap (λ (t : Status). t.running) is in
      λ i. a i ∷ b i ∷ c i ∷ d i ∷ e i ∷ []

-- the status that is made of words of a history is the history's
pub status_back : (C : Config) (P : List Entry) (n m l h w r : ℕ) (v : ℤ) → n ≡ length P → m ∷ l ∷ h ∷ w ∷ r ∷ [] ≡ words_of C P → v ≡ pos (h * 18446744073709551616 + l)
    → ◌≡◌ {A = Status} (record { entries = n; moment = m; vtime = v; waiting = w; running = r }) (status_at C P)
unfolding status_of
status_back C P n m l h w r v count words halved =
    let at : ℕ → List ℕ → ℕ = λ i ws. slice_index ws i in let V : ℕ = virtual_now C P in
    let a : n ≡ length (history_of P) = count ∙ sym (length-reverse P) in
    let b : m ≡ last_moment (history_of P) = ap (at 0) words in
    let low : l ≡ V % 18446744073709551616 = ap (at 1) words in
    let high : h ≡ V / 18446744073709551616 = ap (at 2) words in
    let whole : h * 18446744073709551616 + l ≡ V = omega arith in
    let c : v ≡ pos V = halved ∙ ap pos whole in
    let d : w ≡ waiting (history_of P) = ap (at 3) words in
    let e : r ≡ running (history_of P) = ap (at 4) words in
    λ i. record { entries = a i; moment = b i; vtime = c i; waiting = d i; running = e i }

-- so it is where the configuration is known
pub told_back : (c : Option Config) (C : Config) (P : List Entry) (n m l h w r : ℕ) (v : ℤ) → c ≡ Some C → n ≡ length P → m ∷ l ∷ h ∷ w ∷ r ∷ [] ≡ words_in c P → v ≡ pos (h * 18446744073709551616 + l)
    → status_in c P ≡ Some (record { entries = n; moment = m; vtime = v; waiting = w; running = r })
told_back (Some D) C P n m l h w r v is count words halved = sym (ap (λ (s : Status). Some s) (status_back D P n m l h w r v count words halved))
told_back None C P n m l h w r v is count words halved = cc

pub told_is : (c : Option Config) (C : Config) (P : List Entry) (s : Status) → c ≡ Some C → status_in c P ≡ Some s → s ≡ status_at C P
told_is c C P s is told = ap (λ (o : Option Status). unwrap_or o s) (sym told ∙ ap (λ (x : Option Config). status_in x P) is)

-- the words of the empty history
pub opening_words : (C : Config) → 0 ∷ 0 ∷ 0 ∷ 0 ∷ 0 ∷ [] ≡ words_of C []
opening_words C =
    let none : 0 ≡ virtual_now C [] = sym (virtual_time_nil C (last_moment (history_of []))) in
    λ i. 0 ∷ none i % 18446744073709551616 ∷ none i / 18446744073709551616 ∷ sym waiting_none i ∷ sym running_none i ∷ []

pub opening_status : (C : Config) → ◌≡◌ {A = Status} (record { entries = 0; moment = 0; vtime = pos 0; waiting = 0; running = 0 }) (status_at C [])
opening_status C = status_back C [] 0 0 0 0 0 0 (pos 0) refl (opening_words C) refl
