-- The writes of each instruction are the change from one state's words to another's.
use Rattle.std.proofs.Common.{◌≡◌, ℕ, suc, ◌≤◌, ◌<◌, Bool, true, false, ◌&&◌, cond, ◌==◌, nat_le, List, [], ◌∷◌, ◌++◌, length, Option, Some, slice_index, slice_set, refl, sym, ◌∙◌, ap, subst, arith, append_assoc, lit≤}
use Rattle.std.proofs.lemmas.Bool.{false≢true, le-leb, leb-true, eqb-true, eqb-false, eq-eqb}
use Rattle.std.proofs.lemmas.List.{set-get_or, append-nil}
use Rattle.vf_base.specs.declared.write.Write.{Write}
use Rattle.vf_machine.specs.Writes.{IsChange, AllChange, rises_from, written}
use Rattle.vf_design.specs.Program.{Program}
use Rattle.vf_design.specs.State.{State, halted, active, running}
use Rattle.vf_design.specs.Step.{at}
use Rattle.vf_design.specs.Words.{words_of, ones_word, unknown_word}
use Rattle.vf_kernel.specs.Changes.{change_at}

written_by : (b : Bool) (words : List ℕ) (at old new : ℕ) (more : List Write) → (old == new) ≡ b → slice_index words at ≡ old
    → written words (cond b [] (record { at = at; word = new } ∷ []) ++ more) ≡ written (slice_set words at new) more
written_by true words at old new more e is =
    let same : slice_index words at ≡ new = is ∙ eqb-true old new e in
    ap (λ ws. written ws more) (sym (set-get_or words at 0) ∙ ap (slice_set words at) same)
written_by false words at old new more e is = refl

written_change : (words : List ℕ) (at old new : ℕ) (more : List Write) → slice_index words at ≡ old
    → written words (change_at at old new ++ more) ≡ written (slice_set words at new) more
written_change words at old new more is = written_by (old == new) words at old new more refl is

change_by : (b : Bool) (words : List ℕ) (at old new : ℕ) (more : List Write) → (old == new) ≡ b → at < length words → slice_index words at ≡ old
    → AllChange words more → AllChange words (cond b [] (record { at = at; word = new } ∷ []) ++ more)
change_by true words at old new more e below is rest = rest
change_by false words at old new more e below is rest = (below, (λ same. false≢true (sym e ∙ eq-eqb old new (sym is ∙ same))), rest)

change_more : (words : List ℕ) (at old new : ℕ) (more : List Write) → at < length words → slice_index words at ≡ old
    → AllChange words more → AllChange words (change_at at old new ++ more)
change_more words at old new more below is rest = change_by (old == new) words at old new more refl below is rest

both : (a b : Bool) → a ≡ true → b ≡ true → a && b ≡ true
both true true ha hb = refl
both true false ha hb = hb
both false b ha hb = ha

first_of_both : (a b : Bool) → a && b ≡ true → a ≡ true
first_of_both true b h = refl
first_of_both false b h = h

second_of_both : (a b : Bool) → a && b ≡ true → b ≡ true
second_of_both true b h = h
second_of_both false b h = absurd (false≢true h)

rises_lower : (from at : ℕ) (more : List Write) → from ≤ at → rises_from at more ≡ true → rises_from from more ≡ true
rises_lower from at [] le h = refl
rises_lower from at (write ∷ more) le h =
    let above = leb-true at write.at (first_of_both (nat_le at write.at) (rises_from (suc write.at) more) h) in
    both (nat_le from write.at) (rises_from (suc write.at) more) (le-leb from write.at (omega arith)) (second_of_both (nat_le at write.at) (rises_from (suc write.at) more) h)

rises_by : (b : Bool) (from at new : ℕ) (more : List Write) → from ≤ at → rises_from (suc at) more ≡ true
    → rises_from from (cond b [] (record { at = at; word = new } ∷ []) ++ more) ≡ true
rises_by true from at new more le h = rises_lower from (suc at) more (omega arith) h
rises_by false from at new more le h = both (nat_le from at) (rises_from (suc at) more) (le-leb from at le) h

rises_more : (from at old new : ℕ) (more : List Write) → from ≤ at → rises_from (suc at) more ≡ true
    → rises_from from (change_at at old new ++ more) ≡ true
rises_more from at old new more le h = rises_by (old == new) from at new more le h

-- nothing is written
pub nothing : (words : List ℕ) (writes : List Write) → writes ≡ [] → IsChange words words writes
nothing words writes empty = subst (λ (ws : List Write). IsChange words words ws) (sym empty) (record { rises = refl; change = tt; result = refl })

after_none : (old more writes : List Write) → old ≡ [] → writes ≡ old ++ more → writes ≡ more
after_none old more writes empty is = is ∙ ap (λ ws. ws ++ more) empty

-- the process goes to a place
pub went : (p : Program) (s : State) (to : ℕ) (old writes : List Write) → old ≡ [] → writes ≡ old ++ change_at 16 s.place to → IsChange (words_of p s) (words_of p (at s to)) writes
went p s to old writes empty is =
    let before = words_of p s in
    subst (λ (ws : List Write). IsChange before (words_of p (at s to)) ws)
    (sym (after_none old (change_at 16 s.place to) writes empty is ∙ sym (append-nil (change_at 16 s.place to))))
    (record {
      rises = rises_more 0 16 s.place to [] (lit≤ tt) refl;
      change = change_more before 16 s.place to [] (omega arith) refl tt;
      result = written_change before 16 s.place to [] refl;
    })

-- the process goes to a place, and the integer gets a number
pub assigned : (p : Program) (s : State) (to number : ℕ) (old gone writes : List Write) → old ≡ [] → gone ≡ old ++ change_at 16 s.place to
    → writes ≡ (gone ++ change_at 20 (ones_word s.value) number) ++ change_at 21 (unknown_word s.value) 0
    → IsChange (words_of p s) (words_of p (record s { place = to; value = Some number })) writes
assigned p s to number old gone writes empty went is =
    let before = words_of p s in
    let place = change_at 16 s.place to in
    let ones = change_at 20 (ones_word s.value) number in
    let unknown = change_at 21 (unknown_word s.value) 0 in
    let all : writes ≡ place ++ (ones ++ (unknown ++ [])) =
    is ∙ ap (λ ws. (ws ++ ones) ++ unknown) (after_none old place gone empty went) ∙ simp (append_assoc, append-nil) in
    subst (λ (ws : List Write). IsChange before (words_of p (record s { place = to; value = Some number })) ws) (sym all)
    (record {
      rises = rises_more 0 16 s.place to _ (lit≤ tt) (rises_more 17 20 (ones_word s.value) number _ (lit≤ tt) (rises_more 21 21 (unknown_word s.value) 0 [] (lit≤ tt) refl));
      change = change_more before 16 s.place to _ (omega arith) refl (change_more before 20 (ones_word s.value) number _ (omega arith) refl
          (change_more before 21 (unknown_word s.value) 0 [] (omega arith) refl tt));
      result =
          written_change before 16 s.place to _ refl
          ∙ written_change (words_of p (at s to)) 20 (ones_word s.value) number _ refl
          ∙ written_change (slice_set (words_of p (at s to)) 20 number) 21 (unknown_word s.value) 0 [] refl;
    })

-- an active process starts to run
pub started : (p : Program) (place : ℕ) (value : Option ℕ) (old writes : List Write) → old ≡ []
    → writes ≡ old ++ (record { at = 1; word = 1 } ∷ record { at = 2; word = 0 } ∷ record { at = 3; word = 0 } ∷ record { at = 17; word = 5 } ∷ [])
    → IsChange (words_of p (record { place = place; status = active; value = value })) (words_of p (record { place = place; status = running; value = value })) writes
started p place value old writes empty is =
    subst (λ (ws : List Write). IsChange (words_of p (record { place = place; status = active; value = value })) (words_of p (record { place = place; status = running; value = value })) ws)
    (sym (after_none old _ writes empty is))
    (record {
      rises = refl;
      change = (omega arith, eqb-false 0 1 refl, (omega arith, eqb-false 1 0 refl, (omega arith, eqb-false 1 0 refl, (omega arith, eqb-false 2 5 refl, tt))));
      result = refl;
    })

-- a running process ends
pub ended : (p : Program) (place : ℕ) (value : Option ℕ) (old writes : List Write) → old ≡ []
    → writes ≡ old ++ (record { at = 1; word = 0 } ∷ record { at = 17; word = 0 } ∷ [])
    → IsChange (words_of p (record { place = place; status = running; value = value })) (words_of p (record { place = place; status = halted; value = value })) writes
ended p place value old writes empty is =
    subst (λ (ws : List Write). IsChange (words_of p (record { place = place; status = running; value = value })) (words_of p (record { place = place; status = halted; value = value })) ws)
    (sym (after_none old _ writes empty is))
    (record {
      rises = refl;
      change = (omega arith, eqb-false 1 0 refl, (omega arith, eqb-false 5 0 refl, tt));
      result = refl;
    })
