-- What words are after writes.
use Rattle.std.proofs.Common.{◌≡◌, ◌≢◌, ℕ, suc, ◌*◌, ◌^◌, ◌%◌, ◌<◌, ◌≤◌, true, cond, ◌==◌, List, [], ◌∷◌, ◌++◌, length, Option, Some, None, unwrap_or, slice_index, slice_set, bit_or, refl, sym, ap, ◌∙◌, arith, ⊎_elim}
use Rattle.std.specs.Int.{bit_at}
use Rattle.std.proofs.lemmas.Bool.{cases_lt, cases_eq, ne_eqb}
use Rattle.std.proofs.lemmas.Option.{none-some}
use Rattle.std.proofs.lemmas.List.{get_or-set_same, get_or-set_other, length-set}
use Rattle.std.proofs.lemmas.Grind.{same_number_lists}
use Rattle.vf_base.specs.declared.write.Write.{Write}
use Rattle.vf_machine.specs.Writes.{AllInside, rises_from, written}
use Rattle.vf_machine.proofs.CallerLemmas.{length-written}
use Rattle.vf_patch.specs.Sorted.{found}
use Rattle.vf_patch.specs.Patches.{front_writes}
use Rattle.vf_patch.proofs.SortedLemmas.{hit, miss, rises-parts, found-below}
use Rattle.vf_patch.proofs.FrontLemmas.{found-front, found-past_front, found-front_set, rises-front}

-- what stands at an address after writes
pub written-at : (low : ℕ) (words : List ℕ) (ws : List Write) (a : ℕ) → rises_from low ws ≡ true → a < length words → slice_index (written words ws) a ≡ unwrap_or (found ws a) (slice_index words a)
written-at low words [] a r h = refl
written-at low words (w ∷ ws) a r h =
    let parts = rises-parts low w ws r in
    written-at (suc w.at) (slice_set words w.at w.word) ws a parts.1 (omega (arith, h, length-set words w.at w.word))
    ∙ ⊎_elim
    (λ e. ap (λ o. unwrap_or o (slice_index (slice_set words w.at w.word) a)) (found-below (suc w.at) a ws parts.1 (omega (arith, e)))
    ∙ ap (slice_index (slice_set words w.at w.word)) (sym e) ∙ get_or-set_same words w.at w.word 0 (omega (arith, h, e))
    ∙ sym (ap (λ o. unwrap_or o (slice_index words a)) (hit w.at a (Some w.word) (found ws a) e)))
    (λ ne. ap (unwrap_or (found ws a)) (get_or-set_other words w.at a w.word 0 (λ e. ne (sym e)))
    ∙ sym (ap (λ o. unwrap_or o (slice_index words a)) (miss w.at a (Some w.word) (found ws a) ne)))
    (cases_eq w.at a)

-- writes that give each address the same word leave the same words
pub written-same : (words : List ℕ) (xs ys : List Write) → rises_from 0 xs ≡ true → rises_from 0 ys ≡ true → ((a : ℕ) → a < length words → unwrap_or (found xs a) (slice_index words a) ≡ unwrap_or (found ys a) (slice_index words a)) → written words xs ≡ written words ys
written-same words xs ys rx ry same =
    same_number_lists (written words xs) (written words ys) (length-written words xs ∙ sym (length-written words ys))
    (λ a h. let within : a < length words = omega (arith, h, length-written words xs) in
    written-at 0 words xs a rx within ∙ same a within ∙ sym (written-at 0 words ys a ry within))

-- one write more is one word set
pub written-put : (words : List ℕ) (at word : ℕ) (old new : List Write) → rises_from 0 old ≡ true → rises_from 0 new ≡ true → ((a : ℕ) → found new a ≡ cond (at == a) (Some word) (found old a)) → written words new ≡ slice_set (written words old) at word
written-put words at word old new ro rn put =
    let long = length-written words old in
    same_number_lists (written words new) (slice_set (written words old) at word)
    (length-written words new ∙ sym (length-set (written words old) at word ∙ long))
    (λ a h. let within : a < length words = omega (arith, h, length-written words new) in
    written-at 0 words new a rn within ∙ ap (λ o. unwrap_or o (slice_index words a)) (put a)
    ∙ ⊎_elim
    (λ e. ap (λ o. unwrap_or o (slice_index words a)) (hit at a (Some word) (found old a) e)
    ∙ sym (ap (slice_index (slice_set (written words old) at word)) (sym e) ∙ get_or-set_same (written words old) at word 0 (omega (arith, within, long, e))))
    (λ ne. ap (λ o. unwrap_or o (slice_index words a)) (miss at a (Some word) (found old a) ne)
    ∙ sym (get_or-set_other (written words old) at a word 0 (λ e. ne (sym e)) ∙ written-at 0 words old a ro within))
    (cases_eq at a))

-- writes are inside where each address that is found is
inside-found : (count a : ℕ) (ws : List Write) → AllInside count ws → found ws a ≢ None → a < count
inside-found count a [] inside some = absurd (some refl)
inside-found count a (w ∷ ws) inside some =
    ⊎_elim
    (λ e. omega (arith, inside.0, e))
    (λ ne. inside-found count a ws inside.1 (λ none. some (miss w.at a (Some w.word) (found ws a) ne ∙ none)))
    (cases_eq w.at a)

found-inside : (count : ℕ) (ws : List Write) → ((a : ℕ) → found ws a ≢ None → a < count) → AllInside count ws
found-inside count [] each = _
found-inside count (w ∷ ws) each = (
  each w.at (λ none. none-some _ (sym none ∙ hit w.at w.at (Some w.word) (found ws w.at) refl)),
  found-inside count ws (λ a some. each a (λ none. ⊎_elim
      (λ e. none-some _ (sym none ∙ hit w.at a (Some w.word) (found ws a) e))
      (λ ne. some (sym (miss w.at a (Some w.word) (found ws a) ne) ∙ none))
      (cases_eq w.at a))),
)

pub inside-put : (count at word : ℕ) (old new : List Write) → at < count → ((a : ℕ) → found new a ≡ cond (at == a) (Some word) (found old a)) → AllInside count old → AllInside count new
inside-put count at word old new h put inside =
    found-inside count new (λ a some. ⊎_elim
    (λ e. omega (arith, h, e))
    (λ ne. inside-found count a old inside (λ none. some (put a ∙ miss at a (Some word) (found old a) ne ∙ none)))
    (cases_eq at a))

-- of two lists, one after the other
found-none : (xs ys : List Write) (a : ℕ) → found xs a ≡ None → found (xs ++ ys) a ≡ found ys a
found-none [] ys a none = refl
found-none (w ∷ ws) ys a none =
    ⊎_elim
    (λ e. absurd (none-some _ (sym none ∙ hit w.at a (Some w.word) (found ws a) e)))
    (λ ne. miss w.at a (Some w.word) (found (ws ++ ys) a) ne ∙ found-none ws ys a (sym (miss w.at a (Some w.word) (found ws a) ne) ∙ none))
    (cases_eq w.at a)

found-first : (xs ys : List Write) (a : ℕ) → found ys a ≡ None → found (xs ++ ys) a ≡ found xs a
found-first [] ys a none = none
found-first (w ∷ ws) ys a none = ap (cond (w.at == a) (Some w.word)) (found-first ws ys a none)

-- the writes of a patch at the front, and past it
pub found-low : (mask : ℕ) (words : List ℕ) (rest : List Write) (a : ℕ) → rises_from 16 rest ≡ true → a < 16 → found (front_writes mask words ++ rest) a ≡ found (front_writes mask words) a
found-low mask words rest a r h = found-first (front_writes mask words) rest a (found-below 16 a rest r h)

pub found-high : (mask : ℕ) (words : List ℕ) (rest : List Write) (a : ℕ) → 16 ≤ a → found (front_writes mask words ++ rest) a ≡ found rest a
found-high mask words rest a h = found-none (front_writes mask words) rest a (found-past_front mask a words h)

pub front-put : (mask at word : ℕ) (words : List ℕ) (rest : List Write) → length words ≡ 16 → at < 16 → rises_from 16 rest ≡ true → (a : ℕ) → found (front_writes (bit_or mask (1 * 2 ^ at % 65536)) (slice_set words at word) ++ rest) a ≡ cond (at == a) (Some word) (found (front_writes mask words ++ rest) a)
front-put mask at word words rest len h r a =
    let new : ℕ = bit_or mask (1 * 2 ^ at % 65536) in
    ⊎_elim
    (λ low. found-low new (slice_set words at word) rest a r low ∙ found-front_set mask at word words len h a
    ∙ ap (cond (at == a) (Some word)) (sym (found-low mask words rest a r low)))
    (λ high. found-high new (slice_set words at word) rest a high
    ∙ sym (miss at a (Some word) (found (front_writes mask words ++ rest) a) (λ e. omega (arith, e, high, h)) ∙ found-high mask words rest a high))
    (cases_lt a 16)

pub rest-put : (mask at word : ℕ) (words : List ℕ) (rest new : List Write) → 16 ≤ at → rises_from 16 rest ≡ true → rises_from 16 new ≡ true → ((a : ℕ) → found new a ≡ cond (at == a) (Some word) (found rest a)) → (a : ℕ) → found (front_writes mask words ++ new) a ≡ cond (at == a) (Some word) (found (front_writes mask words ++ rest) a)
rest-put mask at word words rest new h ro rn put a =
    ⊎_elim
    (λ low. found-low mask words new a rn low
    ∙ sym (miss at a (Some word) (found (front_writes mask words ++ rest) a) (λ e. omega (arith, e, low, h)) ∙ found-low mask words rest a ro low))
    (λ high. found-high mask words new a high ∙ put a ∙ ap (cond (at == a) (Some word)) (sym (found-high mask words rest a high)))
    (cases_lt a 16)

-- the word at an address under a patch
read-found : (base : List ℕ) (mask : ℕ) (words : List ℕ) (rest : List Write) (at : ℕ) (o : Option ℕ) → rises_from 16 rest ≡ true → at < length base → found (front_writes mask words ++ rest) at ≡ o → unwrap_or o (slice_index base at) ≡ slice_index (written base (front_writes mask words ++ rest)) at
read-found base mask words rest at o r h is =
    sym (written-at 0 base (front_writes mask words ++ rest) at (rises-front mask words rest r) h ∙ ap (λ x. unwrap_or x (slice_index base at)) is)

pub read-marked : (base : List ℕ) (mask : ℕ) (words : List ℕ) (rest : List Write) (at : ℕ) → rises_from 16 rest ≡ true → at < length base → at < 16 → bit_at mask at ≡ 1 → slice_index words at ≡ slice_index (written base (front_writes mask words ++ rest)) at
read-marked base mask words rest at r h low bit =
    read-found base mask words rest at (Some (slice_index words at)) r h
    (found-low mask words rest at r low ∙ found-front mask at words low
    ∙ ap (λ b. cond b (Some (slice_index words at)) None) (ap (λ n. n == 1) bit))

pub read-unmarked : (base : List ℕ) (mask : ℕ) (words : List ℕ) (rest : List Write) (at : ℕ) → rises_from 16 rest ≡ true → at < length base → at < 16 → bit_at mask at ≢ 1 → slice_index base at ≡ slice_index (written base (front_writes mask words ++ rest)) at
read-unmarked base mask words rest at r h low bit =
    read-found base mask words rest at None r h
    (found-low mask words rest at r low ∙ found-front mask at words low
    ∙ ap (λ b. cond b (Some (slice_index words at)) None) (ne_eqb (bit_at mask at) 1 bit))

pub read-rest : (base : List ℕ) (mask : ℕ) (words : List ℕ) (rest : List Write) (at : ℕ) (o : Option ℕ) → rises_from 16 rest ≡ true → at < length base → 16 ≤ at → o ≡ found rest at → unwrap_or o (slice_index base at) ≡ slice_index (written base (front_writes mask words ++ rest)) at
read-rest base mask words rest at o r h high is =
    read-found base mask words rest at o r h (found-high mask words rest at high ∙ sym is)

-- writes inside, one list after the other
pub inside-parts : (count : ℕ) (xs ys : List Write) → AllInside count (xs ++ ys) → AllInside count xs × AllInside count ys
inside-parts count [] ys inside = (_, inside)
inside-parts count (w ∷ ws) ys inside =
    let parts = inside-parts count ws ys inside.1 in
    ((inside.0, parts.0), parts.1)
