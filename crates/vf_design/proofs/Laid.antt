-- Each word of a state stands at its address, and the words are as many as the design says.
use Rattle.std.proofs.Common.{◌≡◌, ℕ, ◌-◌, length, replicate, slice_index, refl, ◌∙◌, arith, ⊎_elim}
use Rattle.std.proofs.lemmas.Bool.{cases_lt}
use Rattle.std.proofs.lemmas.List.{length-replicate, get_or-replicate, get_or-append_right, get_or_past}
use Rattle.vf_design.specs.Program.{Program, word_count}
use Rattle.vf_design.specs.State.{State, IsSound}
use Rattle.vf_design.specs.Words.{words_of, front_words}
use Rattle.vf_design.specs.Laws.{WordsAreLaidOut}

pub length-words_of : (p : Program) (s : State) → IsSound p s → length (words_of p s) ≡ word_count p
length-words_of p s sound =
    let zeros = length-replicate {A = ℕ} (word_count p - 22) 0 in
    omega (arith, zeros)

zeros_at : (n i : ℕ) → slice_index (replicate n 0) i ≡ 0
zeros_at n i =
    ⊎_elim (λ lt. get_or-replicate n i 0 0 lt)
    (λ ge. get_or_past (replicate n 0) i 0 (let long = length-replicate {A = ℕ} n 0 in omega (arith, long)))
    (cases_lt i n)

pub laid_out : WordsAreLaidOut
laid_out p s sound = record {
  time = refl;
  running = refl;
  active = (refl, refl);
  inactive = (refl, refl);
  update = (refl, refl);
  future = refl;
  strobe = (refl, refl);
  monitor = (refl, refl);
  process = record { place = refl; status = refl; link = refl; wake = refl };
  value = record { ones = refl; unknown = refl };
  slots = λ at h. get_or-append_right (front_words s) (replicate (word_count p - 22) 0) 22 at 0 refl h ∙ zeros_at (word_count p - 22) (at - 22);
}
