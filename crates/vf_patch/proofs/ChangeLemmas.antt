-- The writes that change a word.
use Rattle.std.proofs.Common.{◌≡◌, ℕ, suc, ◌<◌, ◌≤◌, Bool, true, false, cond, not, ◌==◌, List, [], ◌∷◌, ◌++◌, length, Some, unwrap_or, slice_index, refl, sym, ap, ◌∙◌, arith, ⊎_elim}
use Rattle.std.proofs.lemmas.Bool.{cases_eq, eqb-true, eqb-false}
use Rattle.std.proofs.lemmas.List.{append_assoc}
use Rattle.std.proofs.lemmas.List.Elements.{filter-append}
use Rattle.vf_base.specs.declared.write.Write.{Write}
use Rattle.vf_machine.specs.Writes.{AllChange, AllInside, IsChange, rises_from, written}
use Rattle.vf_patch.specs.Sorted.{found}
use Rattle.vf_patch.specs.Patches.{is_change, changes}
use Rattle.vf_patch.proofs.SortedLemmas.{hit, miss, rises-parts, rises-join, rises-less, found-below}
use Rattle.vf_patch.proofs.PatchLemmas.{written-same}

-- what is told of the first write
abbrev told : Bool → Write → List Write → List Write
told b w more = cond b (w ∷ more) more

rises-told : (b : Bool) (low : ℕ) (w : Write) (more : List Write) → low ≤ w.at → rises_from (suc w.at) more ≡ true → rises_from low (told b w more) ≡ true
rises-told true low w more h r = rises-join low w more h r
rises-told false low w more h r = rises-less low (suc w.at) more (omega (arith, h)) r

rises-changes : (low : ℕ) (words : List ℕ) (ws : List Write) → rises_from low ws ≡ true → rises_from low (changes words ws) ≡ true
rises-changes low words [] r = refl
rises-changes low words (w ∷ ws) r =
    let parts = rises-parts low w ws r in
    rises-told (is_change words w) low w (changes words ws) parts.0 (rises-changes (suc w.at) words ws parts.1)

change-told : (b : Bool) (words : List ℕ) (w : Write) (more : List Write) → (slice_index words w.at == w.word) ≡ b → w.at < length words → AllChange words more → AllChange words (told (not b) w more)
change-told true words w more e h rest = rest
change-told false words w more e h rest = (h, eqb-false (slice_index words w.at) w.word e, rest)

all-change : (words : List ℕ) (ws : List Write) → AllInside (length words) ws → AllChange words (changes words ws)
all-change words [] inside = _
all-change words (w ∷ ws) inside =
    change-told (slice_index words w.at == w.word) words w (changes words ws) refl inside.0 (all-change words ws inside.1)

-- a write that is left out leaves the word that stands there
kept-told : (b : Bool) (words : List ℕ) (w : Write) (ws more : List Write) (a : ℕ) → (slice_index words w.at == w.word) ≡ b → rises_from (suc w.at) more ≡ true
    → unwrap_or (found more a) (slice_index words a) ≡ unwrap_or (found ws a) (slice_index words a)
    → unwrap_or (found (told (not b) w more) a) (slice_index words a) ≡ unwrap_or (found (w ∷ ws) a) (slice_index words a)
kept-told true words w ws more a e r same =
    ⊎_elim
    (λ here. ap (λ o. unwrap_or o (slice_index words a)) (found-below (suc w.at) a more r (omega (arith, here)))
    ∙ ap (slice_index words) (sym here) ∙ eqb-true (slice_index words w.at) w.word e
    ∙ sym (ap (λ o. unwrap_or o (slice_index words a)) (hit w.at a (Some w.word) (found ws a) here)))
    (λ ne. same ∙ sym (ap (λ o. unwrap_or o (slice_index words a)) (miss w.at a (Some w.word) (found ws a) ne)))
    (cases_eq w.at a)
kept-told false words w ws more a e r same =
    ⊎_elim
    (λ here. ap (λ o. unwrap_or o (slice_index words a)) (hit w.at a (Some w.word) (found more a) here ∙ sym (hit w.at a (Some w.word) (found ws a) here)))
    (λ ne. ap (λ o. unwrap_or o (slice_index words a)) (miss w.at a (Some w.word) (found more a) ne) ∙ same
    ∙ sym (ap (λ o. unwrap_or o (slice_index words a)) (miss w.at a (Some w.word) (found ws a) ne)))
    (cases_eq w.at a)

kept : (low : ℕ) (words : List ℕ) (ws : List Write) (a : ℕ) → rises_from low ws ≡ true → unwrap_or (found (changes words ws) a) (slice_index words a) ≡ unwrap_or (found ws a) (slice_index words a)
kept low words [] a r = refl
kept low words (w ∷ ws) a r =
    let parts = rises-parts low w ws r in
    kept-told (slice_index words w.at == w.word) words w ws (changes words ws) a refl (rises-changes (suc w.at) words ws parts.1) (kept (suc w.at) words ws a parts.1)

pub changes-are : (words : List ℕ) (ws : List Write) → rises_from 0 ws ≡ true → AllInside (length words) ws → IsChange words (written words ws) (changes words ws)
changes-are words ws r inside = record {
  rises = rises-changes 0 words ws r;
  change = all-change words ws inside;
  result = written-same words (changes words ws) ws (rises-changes 0 words ws r) r (λ a h. kept 0 words ws a r);
}

-- one write more is told
pub told-first : (words : List ℕ) (w : Write) (more into into' : List Write) → into' ≡ into ++ changes words (w ∷ []) → into' ++ changes words more ≡ into ++ changes words (w ∷ more)
told-first words w more into into' e =
    ap (λ ws. ws ++ changes words more) e ∙ append_assoc into (changes words (w ∷ [])) (changes words more)
    ∙ ap (λ ws. into ++ ws) (sym (filter-append (is_change words) (w ∷ []) more))

-- two lists of writes are told, after a list that was emptied
pub told-both : (words : List ℕ) (xs ys ys' none start into into' : List Write) → none ≡ [] → start ≡ none → ys' ≡ ys → into ≡ start ++ changes words xs → into' ≡ into ++ changes words ys' → into' ≡ changes words (xs ++ ys)
told-both words xs ys ys' none start into into' empty same lent first second =
    second ∙ ap (λ ws. into ++ changes words ws) lent
    ∙ ap (λ ws. ws ++ changes words ys) (first ∙ ap (λ ws. ws ++ changes words xs) (same ∙ empty))
    ∙ sym (filter-append (is_change words) xs ys)
