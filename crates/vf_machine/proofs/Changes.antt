-- What writes leave at an address, and on a page.
use Rattle.std.proofs.Common.{◌≡◌, ◌≢◌, ℕ, zero, suc, ◌+◌, ◌*◌, ◌/◌, ◌%◌, ◌<◌, ◌≤◌, Bool, true, false, not, ◌||◌, cond, ◌==◌, nat_le, List, [], ◌∷◌, length, Option, Some, None, unwrap_or, slice_index, slice_set, refl, sym, ◌∙◌, ap, arith, ⊎_elim}
use Rattle.std.proofs.lemmas.Bool.{false≢true, cases_lt, leb-true, eqb-true, eqb-false, eq-eqb, ne_eqb, or_left, or_right, or_cases, and_parts, not-true}
use Rattle.std.proofs.lemmas.List.{get_or-set_same, get_or-set_other, length-set, get_or_past}
use Rattle.vf_machine.specs.Search.{any_below}
use Rattle.vf_machine.specs.Writes.{IsChange, AllChange, AllInside, rises_from, written, writes_page}
use Rattle.vf_base.specs.declared.run.Limits.{Limits}
use Rattle.vf_base.specs.declared.write.Write.{Write}
use Rattle.vf_machine.specs.Machine.{Machine}
use Rattle.vf_machine.specs.Run.{words_at}
use Rattle.vf_machine.specs.Pages.{page_differs, is_touched}
use Rattle.vf_machine.specs.Laws.{ChangedPages}

same_truth : (a b : Bool) → (a ≡ true → b ≡ true) → (b ≡ true → a ≡ true) → a ≡ b
same_truth true b f g = sym (f refl)
same_truth false true f g = g refl
same_truth false false f g = refl

true_not : (a : Bool) → a ≡ false → not a ≡ true
true_not true h = absurd (false≢true (sym h))
true_not false h = refl

-- a search for one that passes
pub any_here : (p : ℕ → Bool) (n i : ℕ) → i < n → p i ≡ true → any_below p n ≡ true
unfolding any_below
any_here p zero i below here = absurd (omega arith)
any_here p (suc n) i below here =
    ⊎_elim (λ lt. or_left (any_below p n) (p n) (any_here p n i lt here))
    (λ ge. let same : i ≡ n = omega arith in or_right (any_below p n) (p n) (ap p (sym same) ∙ here)) (cases_lt i n)

-- one that passes, where a search finds one
pub record Passes (p : ℕ → Bool) (n : ℕ) : Type 0 where
  pub at : ℕ
  pub below : at < n
  pub here : p at ≡ true

pub any_found : (p : ℕ → Bool) (n : ℕ) → any_below p n ≡ true → Passes p n
unfolding any_below
any_found p zero h = absurd (false≢true h)
any_found p (suc n) h =
    ⊎_elim
    (λ earlier. let found = any_found p n earlier in record { at = found.at; below = omega (arith, found.below); here = found.here })
    (λ here. record { at = n; below = omega arith; here = here })
    (or_cases (any_below p n) (p n) h)

-- the value that is written at an address
abbrev lookup : List Write → ℕ → Option ℕ
lookup [] at = None
lookup (write ∷ more) at = cond (write.at == at) (Some write.word) (lookup more at)

-- nothing is written below the first address
lookup_low : (from at : ℕ) (writes : List Write) → rises_from from writes ≡ true → at < from → lookup writes at ≡ None
lookup_low from at [] rises low = refl
lookup_low from at (write ∷ more) rises low =
    let above = leb-true from write.at (and_parts (nat_le from write.at) (rises_from (suc write.at) more) rises).0 in
    ap (λ b. cond b (Some write.word) (lookup more at)) (ne_eqb write.at at (λ same. omega arith))
    ∙ lookup_low (suc write.at) at more (and_parts (nat_le from write.at) (rises_from (suc write.at) more) rises).1 (omega arith)

written_by : (b : Bool) (words : List ℕ) (write : Write) (more : List Write) (at : ℕ) → (write.at == at) ≡ b → rises_from (suc write.at) more ≡ true → at < length words
    → unwrap_or (lookup more at) (slice_index (slice_set words write.at write.word) at) ≡ unwrap_or (cond b (Some write.word) (lookup more at)) (slice_index words at)
written_by true words write more at e later within =
    let same = eqb-true write.at at e in
    ap (λ o. unwrap_or o (slice_index (slice_set words write.at write.word) at)) (lookup_low (suc write.at) at more later (omega arith))
    ∙ ap (λ i. slice_index (slice_set words i write.word) at) same ∙ get_or-set_same words at write.word 0 within
written_by false words write more at e later within =
    ap (unwrap_or (lookup more at)) (get_or-set_other words write.at at write.word 0 (λ same. eqb-false write.at at e (sym same)))

-- what stands at an address after the writes
written_at : (words : List ℕ) (writes : List Write) (from at : ℕ) → rises_from from writes ≡ true → at < length words
    → slice_index (written words writes) at ≡ unwrap_or (lookup writes at) (slice_index words at)
written_at words [] from at rises within = refl
written_at words (write ∷ more) from at rises within =
    let later = (and_parts (nat_le from write.at) (rises_from (suc write.at) more) rises).1 in
    let rest = written_at (slice_set words write.at write.word) more (suc write.at) at later (omega (arith, length-set words write.at write.word)) in
    rest ∙ written_by (write.at == at) words write more at refl later within

-- what is known of an address that is written
record IsWritten (words : List ℕ) (at value : ℕ) : Type 0 where
  within : at < length words
  differs : slice_index words at ≢ value

changed_by : (b : Bool) (words : List ℕ) (write : Write) (more : List Write) (at value : ℕ) → (write.at == at) ≡ b → AllChange words (write ∷ more)
    → (lookup more at ≡ Some value → IsWritten words at value) → cond b (Some write.word) (lookup more at) ≡ Some value → IsWritten words at value
changed_by true words write more at value e change rest is =
    let same = eqb-true write.at at e in
    record { within = omega (arith, change.0); differs = λ equal. change.1 (ap (slice_index words) same ∙ equal ∙ sym (cc)) }
changed_by false words write more at value e change rest is = rest is

changed : (words : List ℕ) (writes : List Write) (at value : ℕ) → AllChange words writes → lookup writes at ≡ Some value → IsWritten words at value
changed words [] at value change is = absurd (cc)
changed words (write ∷ more) at value change is =
    changed_by (write.at == at) words write more at value refl change (changed words more at value change.2) is

-- an address that is written is on a page that is written
page_by : (b : Bool) (write : Write) (more : List Write) (at value : ℕ) → (write.at == at) ≡ b → (lookup more at ≡ Some value → writes_page more (at / 64) ≡ true)
    → cond b (Some write.word) (lookup more at) ≡ Some value → (write.at / 64 == at / 64) || writes_page more (at / 64) ≡ true
page_by true write more at value e rest is =
    or_left (write.at / 64 == at / 64) (writes_page more (at / 64)) (eq-eqb (write.at / 64) (at / 64) (ap (λ n. n / 64) (eqb-true write.at at e)))
page_by false write more at value e rest is = or_right (write.at / 64 == at / 64) (writes_page more (at / 64)) (rest is)

page_of_address : (writes : List Write) (at value : ℕ) → lookup writes at ≡ Some value → writes_page writes (at / 64) ≡ true
page_of_address [] at value is = absurd (cc)
page_of_address (write ∷ more) at value is = page_by (write.at == at) write more at value refl (page_of_address more at value) is

-- a page that is written has an address that is
record HasWrite (writes : List Write) (from page : ℕ) : Type 0 where
  at : ℕ
  value : ℕ
  is : lookup writes at ≡ Some value
  on : at / 64 ≡ page
  above : from ≤ at

address_on_page : (writes : List Write) (from page : ℕ) → rises_from from writes ≡ true → writes_page writes page ≡ true → HasWrite writes from page
address_on_page [] from page rises h = absurd (false≢true h)
address_on_page (write ∷ more) from page rises h =
    let first = leb-true from write.at (and_parts (nat_le from write.at) (rises_from (suc write.at) more) rises).0 in
    let later = (and_parts (nat_le from write.at) (rises_from (suc write.at) more) rises).1 in
    ⊎_elim
    (λ here. record { at = write.at; value = write.word; is = ap (λ b. cond b (Some write.word) (lookup more write.at)) (eq-eqb write.at write.at refl); on = eqb-true (write.at / 64) page here; above = first })
    (λ there.
    let found = address_on_page more (suc write.at) page later there in
    record {
      at = found.at;
      value = found.value;
      is = ap (λ b. cond b (Some write.word) (lookup more found.at)) (ne_eqb write.at found.at (λ same. omega (arith, found.above))) ∙ found.is;
      on = found.on;
      above = omega (arith, found.above, first);
    })
    (or_cases (write.at / 64 == page) (writes_page more page) h)

-- an address where nothing is written keeps its word
kept_unwritten : (before after : List ℕ) (writes : List Write) (at : ℕ) → IsChange before after writes → at < length before → lookup writes at ≡ None
    → slice_index before at ≡ slice_index after at
kept_unwritten before after writes at change within none =
    sym (ap (λ ws. slice_index ws at) (sym change.result) ∙ written_at before writes 0 at change.rises within ∙ ap (λ o. unwrap_or o (slice_index before at)) none)

-- past the end both have nothing
past_both : (words : List ℕ) (at : ℕ) → length words ≤ at → slice_index words at ≡ 0
past_both words at h = get_or_past words at 0 h

pub length-written : (words : List ℕ) (writes : List Write) → length (written words writes) ≡ length words
length-written words [] = refl
length-written words (write ∷ more) = length-written (slice_set words write.at write.word) more ∙ length-set words write.at write.word

kept_by : (before after : List ℕ) (writes : List Write) (at : ℕ) → IsChange before after writes → lookup writes at ≡ None → slice_index before at ≡ slice_index after at
kept_by before after writes at change none =
    let same : length after ≡ length before = ap length (sym change.result) ∙ length-written before writes in
    ⊎_elim (λ lt. kept_unwritten before after writes at change lt none)
    (λ ge. past_both before at ge ∙ sym (past_both after at (omega (arith, same)))) (cases_lt at (length before))

page_from_words : (before after : List ℕ) (writes : List Write) (page at : ℕ) (found : Option ℕ) → IsChange before after writes → at < 64
    → lookup writes (64 * page + at) ≡ found → not (slice_index before (64 * page + at) == slice_index after (64 * page + at)) ≡ true → writes_page writes page ≡ true
page_from_words before after writes page at None change below is here =
    absurd (eqb-false _ _ (not-true _ here) (kept_by before after writes (64 * page + at) change is))
page_from_words before after writes page at (Some value) change below is here =
    let on : (64 * page + at) / 64 ≡ page = omega arith in
    ap (writes_page writes) (sym on) ∙ page_of_address writes (64 * page + at) value is

words_from_page : (before after : List ℕ) (writes : List Write) (page : ℕ) → IsChange before after writes → writes_page writes page ≡ true → page_differs before after page ≡ true
words_from_page before after writes page change h =
    let found = address_on_page writes 0 page change.rises h in
    let written_there = changed before writes found.at found.value change.change found.is in
    let now : slice_index after found.at ≡ found.value =
    ap (λ ws. slice_index ws found.at) (sym change.result) ∙ written_at before writes 0 found.at change.rises written_there.within ∙ ap (λ o. unwrap_or o (slice_index before found.at)) found.is in
    let place : 64 * page + found.at % 64 ≡ found.at = omega (arith, found.on) in
    let differ : slice_index before (64 * page + found.at % 64) ≢ slice_index after (64 * page + found.at % 64) =
    λ same. written_there.differs (ap (slice_index before) (sym place) ∙ same ∙ ap (slice_index after) place ∙ now) in
    any_here (λ at. not (slice_index before (64 * page + at) == slice_index after (64 * page + at))) 64 (found.at % 64) (omega arith)
    (true_not _ (ne_eqb _ _ differ))

pub changed_pages_lem : ChangedPages
changed_pages_lem before after writes page change =
    same_truth (page_differs before after page) (writes_page writes page)
    (λ h.
    let found = any_found (λ at. not (slice_index before (64 * page + at) == slice_index after (64 * page + at))) 64 h in
    page_from_words before after writes page found.at (lookup writes (64 * page + found.at)) change found.below refl found.here)
    (words_from_page before after writes page change)

-- no turn, no page; one turn more, and the pages that it changes
pub is_touched-zero : {S : Type 0} (m : Machine S) (stim : List ℕ) (limits : Limits) (page : ℕ) → is_touched m stim limits 0 page ≡ false
unfolding is_touched
is_touched-zero m stim limits page = refl

pub is_touched-suc : {S : Type 0} (m : Machine S) (stim : List ℕ) (limits : Limits) (k page : ℕ)
    → is_touched m stim limits (suc k) page ≡ is_touched m stim limits k page || page_differs (words_at m stim limits k) (words_at m stim limits (suc k)) page
unfolding is_touched
is_touched-suc m stim limits k page = refl

-- the writes of a change are inside the words
pub all_inside : (words : List ℕ) (writes : List Write) (count : ℕ) → length words ≤ count → AllChange words writes → AllInside count writes
all_inside words [] count fits change = tt
all_inside words (write ∷ more) count fits change = (omega (arith, fits, change.0), all_inside words more count fits change.2)
