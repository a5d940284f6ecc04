-- A text is read in one way.
use Rattle.std.proofs.Common.{◌≡◌, ℕ, ◌<◌, List, length, None, Some, ap, sym, subst, ◌∙◌, arith}
use Rattle.std.proofs.lemmas.Bool.{both_ways}
use Rattle.vf_base.specs.declared.names.Place.{Place}
use Rattle.vf_lexeme.specs.Laws.{BeginsOnce, PassesOnce}
use Rattle.vf_macro.specs.Laws.{MacroTextsOnce}
use Rattle.vf_macro.specs.MacroText.{IsMacroText}
use Rattle.vf_lex.specs.declared.fault.LexFault.{LexFault}
use Rattle.vf_lex.specs.declared.fault.LexKind.{LexKind}
use Rattle.vf_lex.specs.declared.spot.Spot.{Spot}
use Rattle.vf_lex.specs.Around.{Around, End, Ended, Stopped, is_taken, with_macro, with_use}
use Rattle.vf_lex.specs.Directives.{Effect, Goes, Defines, Uses, Stops}
use Rattle.vf_lex.specs.Elements.{taken_effect, passed_effect, Does, taken, passed}
use Rattle.vf_lex.specs.Places.{moved, nested, before}
use Rattle.vf_lex.specs.Reads.{fault_at, use_fault, Reads, ends, goes, defines, uses, use_stops, use_refused, stops}

module _ (begins : BeginsOnce) (passes : PassesOnce) (macro_texts : MacroTextsOnce) where
  does_once : (place : Place) (now : Around) (text : List ℕ) (one other : Effect) → Does place now text one
      → Does place now text other → one ≡ other
  does_once place now text one other (taken seen t b e) (taken seen_2 _ c f) = e
      ∙ ap (taken_effect place now) (begins text seen seen_2 b c) ∙ sym f
  does_once place now text one other (taken seen t b e) (passed seen_2 u c f) = absurd (both_ways (is_taken now.conditions) u t)
  does_once place now text one other (passed seen t b e) (taken seen_2 u c f) = absurd (both_ways (is_taken now.conditions) t u)
  does_once place now text one other (passed seen t b e) (passed seen_2 _ c f) = e
      ∙ ap (passed_effect place now) (passes text seen seen_2 b c) ∙ sym f

  -- how the reading goes on after the use of a macro
  data AfterUse (spot : Spot) (now : Around) (text body rest : List ℕ) (end : End) : Type 0 where
    used : (next : Around) → use_fault spot now body ≡ None → Reads (nested spot) (with_use now body) body (Ended next)
        → Reads (moved spot (before text rest)) next rest end → AfterUse spot now text body rest end
    stopped : (fault : LexFault) → use_fault spot now body ≡ None → Reads (nested spot) (with_use now body) body (Stopped fault)
        → end ≡ Stopped fault → AfterUse spot now text body rest end
    refused : (kind : LexKind) → use_fault spot now body ≡ Some kind → end ≡ Stopped (fault_at kind spot)
        → AfterUse spot now text body rest end

  -- how the reading goes on after an element of this effect
  abbrev Follows : Spot → Around → List ℕ → End → Effect → Type 0
  Follows spot now text end (Goes next rest) = Reads (moved spot (before text rest)) next rest end
  Follows spot now text end (Defines name bytes) =
      (body : List ℕ) × (rest : List ℕ) × IsMacroText bytes body rest
      × Reads (moved spot (before text rest)) (with_macro now name (Some body)) rest end
  Follows spot now text end (Uses body rest) = AfterUse spot now text body rest end
  Follows spot now text end (Stops kind) = end ≡ Stopped (fault_at kind spot)

  follows : (spot : Spot) (now : Around) (text : List ℕ) (end : End) (effect : Effect) → 0 < length text
      → Does spot.place now text effect → Reads spot now text end
      → Follows spot now text end effect
  follows spot now text end effect some d (ends none is) = absurd (omega (arith, some, none))
  follows spot now text end effect some d (goes next rest _ e r) = subst (λ f. Follows spot now text end f)
      (does_once spot.place now text _ _ e d) r
  follows spot now text end effect some d (defines name bytes body rest _ e s r) = subst (λ f. Follows spot now text end f)
      (does_once spot.place now text _ _ e d) (body, rest, s, r)
  follows spot now text end effect some d (uses body rest next _ e none inner r) = subst (λ f. Follows spot now text end f)
      (does_once spot.place now text _ _ e d) (used next none inner r)
  follows spot now text end effect some d (use_stops body rest fault _ e none inner is) = subst
      (λ f. Follows spot now text end f) (does_once spot.place now text _ _ e d) (stopped fault none inner is)
  follows spot now text end effect some d (use_refused body rest kind _ e why is) = subst (λ f. Follows spot now text end f)
      (does_once spot.place now text _ _ e d) (refused kind why is)
  follows spot now text end effect some d (stops kind _ e is) = subst (λ f. Follows spot now text end f)
      (does_once spot.place now text _ _ e d) is

  at_end : (spot : Spot) (now : Around) (text : List ℕ) (end : End) → length text ≡ 0 → Reads spot now text end → end ≡ Ended now
  at_end spot now text end none (ends _ is) = is
  at_end spot now text end none (goes next rest some e r) = absurd (omega (arith, some, none))
  at_end spot now text end none (defines name bytes body rest some e s r) = absurd (omega (arith, some, none))
  at_end spot now text end none (uses body rest next some e fits inner r) = absurd (omega (arith, some, none))
  at_end spot now text end none (use_stops body rest fault some e fits inner is) = absurd (omega (arith, some, none))
  at_end spot now text end none (use_refused body rest kind some e why is) = absurd (omega (arith, some, none))
  at_end spot now text end none (stops kind some e is) = absurd (omega (arith, some, none))

  pub reads_once : {spot : Spot} {now : Around} {text : List ℕ} {one other : End} → Reads spot now text one
      → Reads spot now text other → one ≡ other
  reads_once {spot} {now} {text} {other} (ends none is) r = is ∙ sym (at_end spot now text other none r)
  reads_once {spot} {now} {text} {other} (goes next rest some d r) s = reads_once r
      (follows spot now text other (Goes next rest) some d s)
  reads_once {spot} {now} {text} {other} (defines name bytes body rest some d t r) s =
      let f = follows spot now text other (Defines name bytes) some d s in
      let same = macro_texts bytes f.0 f.1 body rest f.2 t in
      let again : Reads (moved spot (before text rest)) (with_macro now name (Some body)) rest other =
      subst (λ b. Reads (moved spot (before text rest)) (with_macro now name (Some b)) rest other) same.0
      (subst (λ u. Reads (moved spot (before text u)) (with_macro now name (Some f.0)) u other) same.1 f.3) in
      reads_once r again
  reads_once {spot} {now} {text} {other} (uses body rest next some d fits inner r) s =
      elim (follows spot now text other (Uses body rest) some d s) [
        | used next_2 _ inner_2 r_2 ↦
            let ended : Ended next ≡ Ended next_2 = reads_once inner inner_2 in
            let same : next_2 ≡ next = cc in
            reads_once r (subst (λ n. Reads (moved spot (before text rest)) n rest other) same r_2)
        | stopped fault _ inner_2 is ↦ let ended : Ended next ≡ Stopped fault = reads_once inner inner_2 in absurd cc
        | refused kind why is ↦ absurd cc
      ]
  reads_once {spot} {now} {text} {other} (use_stops body rest fault some d fits inner is) s =
      elim (follows spot now text other (Uses body rest) some d s) [
        | used next _ inner_2 r_2 ↦ let ended : Stopped fault ≡ Ended next = reads_once inner inner_2 in absurd cc
        | stopped fault_2 _ inner_2 is_2 ↦ let ended : Stopped fault ≡ Stopped fault_2 = reads_once inner inner_2 in is
            ∙ ended ∙ sym is_2
        | refused kind why is_2 ↦ absurd cc
      ]
  reads_once {spot} {now} {text} {other} (use_refused body rest kind some d why is) s =
      elim (follows spot now text other (Uses body rest) some d s) [
        | used next fits inner r ↦ absurd cc
        | stopped fault fits inner is_2 ↦ absurd cc
        | refused kind_2 why_2 is_2 ↦
            let same : kind ≡ kind_2 = cc in
            is ∙ ap (λ k. Stopped (fault_at k spot)) same ∙ sym is_2
      ]
  reads_once {spot} {now} {text} {other} (stops kind some d is) s = is ∙ sym (follows spot now text other (Stops kind) some d s)
