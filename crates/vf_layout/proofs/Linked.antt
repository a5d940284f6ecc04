-- The link of one event in the words of a state.
use Rattle.std.proofs.Common.{◌≡◌, ◌≢◌, ℕ, ◌+◌, ◌<◌, ◌≤◌, Bool, true, false, List, [], ◌∷◌, length, refl, sym, ◌∙◌, ap, arith, ⊎_elim, ◌==◌, if◌then◌else◌, slice_index, slice_set}
use Rattle.std.proofs.Math.Path.{fun_ext}
use Rattle.std.proofs.lemmas.Bool.{false≢true, eq-eqb, ne_eqb, cases_eq}
use Rattle.std.proofs.lemmas.List.{set-get_or, get_or-set_same}
use Rattle.vf_elaborated.specs.Elaborated.{Elaborated}
use Rattle.vf_elaborated.specs.Addresses.{has_wide, link_at, word_count}
use Rattle.vf_elaborated.proofs.CallerLemmas.{thread_inside, slot_inside, link_of_process, link_of_slot}
use Rattle.vf_scheduler.specs.State.{State, no_thread, thread_of, Slot, Free, Later, Due, Strobed, Item, of_process, of_slot}
use Rattle.vf_scheduler.specs.Posting.{is_free, time_in}
use Rattle.vf_scheduler.specs.Sound.{slot_of}
use Rattle.vf_scheduler.specs.Words.{status_word, update_words, slot_words}
use Rattle.vf_layout.specs.Addresses.{HasShape}
use Rattle.vf_layout.specs.Puts.{put_all}
use Rattle.vf_layout.specs.Regions.{HasLink, number}
use Rattle.vf_layout.proofs.Image.{image, thread_changed, slot_changed}
use Rattle.vf_layout.proofs.StandingLemmas.{image_length}

-- links with one that is another
abbrev pub reset : (ℕ → ℕ) → ℕ → ℕ → ℕ → ℕ
reset links n word k = if k == n then word else links k

pub reset_here : (links : ℕ → ℕ) (n word : ℕ) → reset links n word n ≡ word
reset_here links n word = ap (λ b. if b then word else links n) (eq-eqb n n refl)

pub reset_other : (links : ℕ → ℕ) (n word m : ℕ) → m ≢ n → reset links n word m ≡ links m
reset_other links n word m other = ap (λ b. if b then word else links m) (ne_eqb m n other)

-- links that are those, but for one
pub is_reset : (links others : ℕ → ℕ) (n word : ℕ) → others n ≡ word → ((m : ℕ) → m ≢ n → others m ≡ links m) → others ≡ reset links n word
is_reset links others n word here same =
    fun_ext {f = others} {g = reset links n word}
    (λ m.
    ⊎_elim (λ e. ap others e ∙ here ∙ sym (reset_here links n word) ∙ ap (reset links n word) (sym e)) (λ other. same m other ∙ sym (reset_other links n word m other)) (cases_eq m n))

-- ---- the link of a slot

slot_relinked : (wide : Bool) (links others : ℕ → ℕ) (n word : ℕ) (slot : Slot) → is_free slot ≡ false → others n ≡ word
    → slot_words wide others (n, slot) ≡ put_all 1 (word ∷ []) (slot_words wide links (n, slot))
slot_relinked wide links others n word Free held new = absurd (false≢true (sym held))
slot_relinked wide links others n word (Later at u) held new = ap (λ l. 1 ∷ l ∷ at ∷ update_words wide u) new
slot_relinked wide links others n word (Due u) held new = ap (λ l. 2 ∷ l ∷ 0 ∷ update_words wide u) new
slot_relinked true links others n word (Strobed show) held new = ap (λ l. 3 ∷ l ∷ 0 ∷ show ∷ 0 ∷ 0 ∷ 0 ∷ 0 ∷ 0 ∷ 0 ∷ []) new
slot_relinked false links others n word (Strobed show) held new = ap (λ l. 3 ∷ l ∷ 0 ∷ show ∷ 0 ∷ 0 ∷ 0 ∷ 0 ∷ []) new

module _ (d : Elaborated) (front : List ℕ) (long : length front ≡ 16) (s : State) (shape : HasShape d s) (links : ℕ → ℕ) where
  -- one link is written
  pub relinked : (item : Item) (word : ℕ) → HasLink d s item
      → image d front (reset links (number d item) word) s ≡ slice_set (image d front links s) (link_at d (number d item)) word
  relinked (of_process p) word has =
      ap (λ threads. image d front (reset links p word) (record s { threads = threads })) (sym (set-get_or s.threads p no_thread))
      ∙ thread_changed d front long s shape links (reset links p word) p (thread_of s p) 2 (word ∷ []) has (λ m other. reset_other links p word m other)
      (ap (λ l. (thread_of s p).place ∷ status_word (thread_of s p).status ∷ l ∷ time_in (thread_of s p).status ∷ []) (reset_here links p word)) (omega arith)
      ∙ ap (λ at. slice_set (image d front links s) at word) (sym (link_of_process d p has))
  relinked (of_slot q) word has =
      let n = length d.processes + q in
      ap (λ slots. image d front (reset links n word) (record s { slots = slots })) (sym (set-get_or s.slots q Free))
      ∙ slot_changed d front long s shape links (reset links n word) q (slot_of s q) 1 (word ∷ []) has.0 (λ m other. reset_other links n word m other)
      (slot_relinked (has_wide d) links (reset links n word) n word (slot_of s q) has.1 (reset_here links n word)) (room (has_wide d))
      ∙ ap (λ at. slice_set (image d front links s) at word) (sym (link_of_slot d q))
    where
      room : (wide : Bool) → 1 + 1 ≤ (if wide then 10 else 8)
      room true = omega arith
      room false = omega arith

  inside : (item : Item) → HasLink d s item → link_at d (number d item) < word_count d
  inside (of_process p) has = omega (arith, link_of_process d p has, thread_inside d p has)
  inside (of_slot q) has = let size = small (has_wide d) in omega (arith, link_of_slot d q, slot_inside d q has.0, size)
    where
      small : (wide : Bool) → 8 ≤ (if wide then 10 else 8)
      small true = omega arith
      small false = omega arith

  -- it is read there
  pub link_read : (item : Item) → HasLink d s item → slice_index (image d front links s) (link_at d (number d item)) ≡ links (number d item)
  link_read item has =
      let n = number d item in
      let at = link_at d n in
      let words = image d front links s in
      let within = inside item has in
      let long = image_length d front long links s shape in
      ap (λ words. slice_index words at) (ap (λ links. image d front links s) (is_reset links links n (links n) refl (λ m other. refl)) ∙ relinked item (links n) has)
      ∙ get_or-set_same words at (links n) 0 (omega (arith, within, long))
