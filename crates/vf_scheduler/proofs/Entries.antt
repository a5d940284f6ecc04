-- Processes and event slots are told by their words, and so are the links of events.
use Rattle.std.proofs.Common.{◌≡◌, ℕ, zero, suc, ◌+◌, ◌<◌, Bool, true, false, List, [], ◌∷◌, ◌++◌, length, replicate, refl, sym, ◌∙◌, ap, ap₂, arith, ◌==◌, if◌then◌else◌, flat_map, slice_index_or}
use Rattle.std.proofs.lemmas.Bool.{false≢true}
use Rattle.std.proofs.lemmas.List.{append_assoc, append_cancel_left}
use Rattle.std.proofs.lemmas.List.Elements.{All-head, All-tail}
use Rattle.std.specs.Prelude.{⊤}
use Rattle.std.specs.List.{All, enumerate_from}
use Rattle.vf_scheduler.specs.State.{Status, Halted, Waiting, Active, Inactive, Future, Running, Thread, Update, Slot, Free, Later, Due, Strobed}
use Rattle.vf_scheduler.specs.Posting.{time_in, is_free}
use Rattle.vf_scheduler.specs.Words.{status_word, thread_words, update_words, value_size, slot_words}
use Rattle.vf_scheduler.proofs.Values.{Told, first_word, value_told}

-- ---- processes

status_from : ℕ → ℕ → Status
status_from word time =
    if word == 0 then Halted
    else (if word == 1 then Waiting else (if word == 2 then Active else (if word == 3 then Inactive else (if word == 4 then Future time else Running))))

status_again : (status : Status) → status_from (status_word status) (time_in status) ≡ status
unfolding status_from
status_again Halted = refl
status_again Waiting = refl
status_again Active = refl
status_again Inactive = refl
status_again (Future at) = refl
status_again Running = refl

-- the links of the first events from a number on are equal
abbrev pub SameLinks : (ℕ → ℕ) → (ℕ → ℕ) → ℕ → ℕ → Type 0
SameLinks links others n count = (k : ℕ) → k < count → links (n + k) ≡ others (n + k)

pub record ThreadsTold (links others : ℕ → ℕ) (n : ℕ) (xs ys : List Thread) (more next : List ℕ) : Type 0 where
  pub same : xs ≡ ys
  pub links_same : SameLinks links others n (length xs)
  pub rest : more ≡ next

pub threads_told : (links others : ℕ → ℕ) (n : ℕ) (xs ys : List Thread) (more next : List ℕ) → length xs ≡ length ys
    → flat_map (thread_words links) (enumerate_from n xs) ++ more ≡ flat_map (thread_words others) (enumerate_from n ys) ++ next
    → ThreadsTold links others n xs ys more next
threads_told links others n [] [] more next long e = record { same = refl; links_same = λ k below. absurd (omega (arith, below)); rest = e }
threads_told links others n [] (y ∷ ys) more next long e = absurd (omega (arith, long))
threads_told links others n (x ∷ xs) [] more next long e = absurd (omega (arith, long))
threads_told links others n (x ∷ xs) (y ∷ ys) more next long e =
    let place = first_word _ _ _ _ e in
    let word = first_word _ _ _ _ place.rest in
    let link = first_word _ _ _ _ word.rest in
    let time = first_word _ _ _ _ link.rest in
    let after = threads_told links others (n + 1) xs ys more next (omega (arith, long)) time.rest in
    let status : x.status ≡ y.status = sym (status_again x.status) ∙ ap₂ status_from word.same time.same ∙ status_again y.status in
    record {
      same = ap₂ (λ (t : Thread) ts. t ∷ ts) (λ j. record { place = place.same j; status = status j }) after.same;
      links_same = each link.same after.links_same;
      rest = after.rest;
    }
  where
    each : links n ≡ others n → SameLinks links others (n + 1) (length xs) → SameLinks links others n (length (x ∷ xs))
    each one rest zero below = let at : n + zero ≡ n = omega arith in ap links at ∙ one ∙ ap others (sym at)
    each one rest (suc k) below =
        let at : n + suc k ≡ n + 1 + k = omega arith in
        ap links at ∙ rest k (omega (arith, below)) ∙ ap others (sym at)

-- ---- slots

-- what an update gives fits into the word of its low bit and width
abbrev pub IsNarrow : Slot → Type 0
IsNarrow (Later at u) = length u.bits < 256
IsNarrow (Due u) = length u.bits < 256
IsNarrow _ = ⊤

update_told : (wide : Bool) (u v : Update) (more next : List ℕ) → length u.bits < 256 → length v.bits < 256
    → update_words wide u ++ more ≡ update_words wide v ++ next → Told u v more next
update_told wide u v more next nu nv e =
    let sig = first_word _ _ _ _ e in
    let element = first_word _ _ _ _ sig.rest in
    let place = first_word _ _ _ _ element.rest in
    let low : u.low ≡ v.low = omega (arith, place.same, nu, nv) in
    let long : length u.bits ≡ length v.bits = omega (arith, place.same, nu, nv) in
    let bits = value_told wide u.bits v.bits more next long place.rest in
    record { same = λ j. record { sig = sig.same j; element = element.same j; low = low j; bits = bits.same j }; rest = bits.rest }

pub record SlotTold (links others : ℕ → ℕ) (n : ℕ) (x y : Slot) (more next : List ℕ) : Type 0 where
  pub same : x ≡ y
  pub link : is_free x ≡ false → links n ≡ others n
  pub rest : more ≡ next

kind : Slot → ℕ
kind Free = 0
kind (Later at u) = 1
kind (Due u) = 2
kind (Strobed show) = 3

-- the first word of a slot is its kind
kind_first : (wide : Bool) (links : ℕ → ℕ) (n : ℕ) (x : Slot) (more : List ℕ) → slice_index_or (slot_words wide links (n, x) ++ more) 0 0 ≡ kind x
unfolding kind
kind_first true links n Free more = refl
kind_first false links n Free more = refl
kind_first wide links n (Later at u) more = refl
kind_first wide links n (Due u) more = refl
kind_first wide links n (Strobed show) more = refl

module _ (wide : Bool) (links others : ℕ → ℕ) (n : ℕ) (more next : List ℕ) where
  abbrev SameWords : Slot → Slot → Type 0
  SameWords x y = slot_words wide links (n, x) ++ more ≡ slot_words wide others (n, y) ++ next

  same_kind : (x y : Slot) → SameWords x y → kind x ≡ kind y
  same_kind x y e = sym (kind_first wide links n x more) ∙ ap (λ list. slice_index_or list 0 0) e ∙ kind_first wide others n y next

  by_kind : (x y : Slot) → kind x ≡ kind y → IsNarrow x → IsNarrow y → SameWords x y → SlotTold links others n x y more next
  unfolding kind
  by_kind Free Free k nx ny e = record { same = refl; link = λ h. absurd (false≢true (sym h)); rest = append_cancel_left (replicate (6 + value_size wide) 0) more next e }
  by_kind (Later at u) (Later time v) k nx ny e =
      let tag = first_word _ _ _ _ e in
      let link = first_word _ _ _ _ tag.rest in
      let when = first_word _ _ _ _ link.rest in
      let told = update_told wide u v more next nx ny when.rest in
      record { same = ap₂ Later when.same told.same; link = λ h. link.same; rest = told.rest }
  by_kind (Due u) (Due v) k nx ny e =
      let tag = first_word _ _ _ _ e in
      let link = first_word _ _ _ _ tag.rest in
      let when = first_word _ _ _ _ link.rest in
      let told = update_told wide u v more next nx ny when.rest in
      record { same = ap Due told.same; link = λ h. link.same; rest = told.rest }
  by_kind (Strobed show) (Strobed other) k nx ny e =
      let tag = first_word _ _ _ _ e in
      let link = first_word _ _ _ _ tag.rest in
      let when = first_word _ _ _ _ link.rest in
      let what = first_word _ _ _ _ when.rest in
      record { same = ap Strobed what.same; link = λ h. link.same; rest = append_cancel_left (replicate (2 + value_size wide) 0) more next what.rest }
  by_kind Free (Later at u) k nx ny e = absurd (omega (arith, k))
  by_kind Free (Due u) k nx ny e = absurd (omega (arith, k))
  by_kind Free (Strobed show) k nx ny e = absurd (omega (arith, k))
  by_kind (Later at u) Free k nx ny e = absurd (omega (arith, k))
  by_kind (Later at u) (Due v) k nx ny e = absurd (omega (arith, k))
  by_kind (Later at u) (Strobed show) k nx ny e = absurd (omega (arith, k))
  by_kind (Due u) Free k nx ny e = absurd (omega (arith, k))
  by_kind (Due u) (Later at v) k nx ny e = absurd (omega (arith, k))
  by_kind (Due u) (Strobed show) k nx ny e = absurd (omega (arith, k))
  by_kind (Strobed show) Free k nx ny e = absurd (omega (arith, k))
  by_kind (Strobed show) (Later at u) k nx ny e = absurd (omega (arith, k))
  by_kind (Strobed show) (Due u) k nx ny e = absurd (omega (arith, k))

  slot_told : (x y : Slot) → IsNarrow x → IsNarrow y → SameWords x y → SlotTold links others n x y more next
  slot_told x y nx ny e = by_kind x y (same_kind x y e) nx ny e

-- the links of the slots that are not free, from a number on
abbrev pub SameSlotLinks : (ℕ → ℕ) → (ℕ → ℕ) → ℕ → List Slot → Type 0
SameSlotLinks links others n xs = (k : ℕ) → k < length xs → is_free (slice_index_or xs k Free) ≡ false → links (n + k) ≡ others (n + k)

pub record SlotsTold (links others : ℕ → ℕ) (n : ℕ) (xs ys : List Slot) (more next : List ℕ) : Type 0 where
  pub same : xs ≡ ys
  pub links_same : SameSlotLinks links others n xs
  pub rest : more ≡ next

pub slots_told : (wide : Bool) (links others : ℕ → ℕ) (n : ℕ) (xs ys : List Slot) (more next : List ℕ) → length xs ≡ length ys → All IsNarrow xs → All IsNarrow ys
    → flat_map (slot_words wide links) (enumerate_from n xs) ++ more ≡ flat_map (slot_words wide others) (enumerate_from n ys) ++ next
    → SlotsTold links others n xs ys more next
slots_told wide links others n [] [] more next long nx ny e = record { same = refl; links_same = λ k below h. absurd (omega (arith, below)); rest = e }
slots_told wide links others n [] (y ∷ ys) more next long nx ny e = absurd (omega (arith, long))
slots_told wide links others n (x ∷ xs) [] more next long nx ny e = absurd (omega (arith, long))
slots_told wide links others n (x ∷ xs) (y ∷ ys) more next long nx ny e =
    let after = flat_map (slot_words wide links) (enumerate_from (n + 1) xs) in
    let behind = flat_map (slot_words wide others) (enumerate_from (n + 1) ys) in
    let split = sym (append_assoc (slot_words wide links (n, x)) after more) ∙ e ∙ append_assoc (slot_words wide others (n, y)) behind next in
    let one = slot_told wide links others n (after ++ more) (behind ++ next) x y (All-head IsNarrow x xs nx) (All-head IsNarrow y ys ny) split in
    let all = slots_told wide links others (n + 1) xs ys more next (omega (arith, long)) (All-tail IsNarrow x xs nx) (All-tail IsNarrow y ys ny) one.rest in
    record { same = ap₂ (λ (s : Slot) ss. s ∷ ss) one.same all.same; links_same = each one.link all.links_same; rest = all.rest }
  where
    each : (is_free x ≡ false → links n ≡ others n) → SameSlotLinks links others (n + 1) xs → SameSlotLinks links others n (x ∷ xs)
    each one rest zero below h = let at : n + zero ≡ n = omega arith in ap links at ∙ one h ∙ ap others (sym at)
    each one rest (suc k) below h =
        let at : n + suc k ≡ n + 1 + k = omega arith in
        ap links at ∙ rest k (omega (arith, below)) h ∙ ap others (sym at)
