-- One line after another.
use Rattle.std.proofs.Common.{◌≡◌, ℕ, ◌+◌, List, [], ◌∷◌, ◌++◌, length, take, drop, Option, Some, None, option_map, refl, sym, ◌∙◌, ap, subst, arith, append_assoc, append-nil, length-append}
use Rattle.std.proofs.Math.Seq.{take-append-add}
use Rattle.std.proofs.lemmas.List.{take-append-le, take-append-drop}
use Rattle.vf_ports.specs.Counts.{Rose}
use Rattle.vf_ports.specs.Sink.{SinkState, Appends, AppendsPart}
use Rattle.vf_top.specs.Answer.{Wrote, WrotePart}

appends_joined : (before middle after : Option (List ℕ)) (x part y : List ℕ) (n : ℕ) → Appends before middle x → Appends middle after part → part ≡ take n y
    → Appends before after (take (length x + n) (x ++ y))
appends_joined None middle after x part y n first second is = second ∙ ap (option_map (λ earlier. earlier ++ part)) first
appends_joined (Some earlier) middle after x part y n first second is =
    second ∙ ap (option_map (λ e. e ++ part)) first ∙ ap Some (append_assoc earlier x part ∙ ap (λ p. earlier ++ (x ++ p)) is ∙ ap (λ l. earlier ++ l) (sym (take-append-add x y n)))

-- the first part whole, and of the second a part
appends_then_part : (before middle after : Option (List ℕ)) (x y : List ℕ) → Appends before middle x → AppendsPart middle after y → AppendsPart before after (x ++ y)
appends_then_part before middle after x y first second = record {
  count = length x + second.count;
  short = omega (arith, second.short, length-append x y);
  is = appends_joined before middle after x (take second.count y) y second.count first second.is refl;
}

-- of the first a part
appends_front : (before after : Option (List ℕ)) (x y : List ℕ) → AppendsPart before after x → AppendsPart before after (x ++ y)
appends_front before after x y first = record {
  count = first.count;
  short = omega (arith, first.short, length-append x y);
  is = subst (λ (bytes : List ℕ). Appends before after bytes) (sym (take-append-le first.count x y (omega (arith, first.short)))) first.is;
}

-- both whole
appends_both : (before middle after : Option (List ℕ)) (x y : List ℕ) → Appends before middle x → Appends middle after y → Appends before after (x ++ y)
appends_both None middle after x y first second = second ∙ ap (option_map (λ earlier. earlier ++ y)) first
appends_both (Some earlier) middle after x y first second = second ∙ ap (option_map (λ e. e ++ y)) first ∙ ap Some (append_assoc earlier x y)

appends_none : (before : Option (List ℕ)) → Appends before before []
appends_none None = refl
appends_none (Some earlier) = ap Some (sym (append-nil earlier))

-- of a text the rest is still to be written
pub record IsWritten (before now : SinkState) (text rest : List ℕ) : Type 0 where
  pub done : List ℕ
  pub parts : done ++ rest ≡ text
  pub whole : Appends before.written now.written done
  pub faults : now.faults ≡ before.faults

pub written_first : (before : SinkState) (text : List ℕ) → IsWritten before before text text
written_first before text = record { done = []; parts = refl; whole = appends_none before.written; faults = refl }

pub written_next : (before now next : SinkState) (text rest line more : List ℕ) (n : ℕ) → IsWritten before now text rest → line ≡ take n rest → more ≡ drop n rest
    → Appends now.written next.written line → next.faults ≡ now.faults → IsWritten before next text more
written_next before now next text rest line more n w is_line is_more appends kept = record {
  done = w.done ++ line;
  parts =
      append_assoc w.done line more
      ∙ ap (λ l. w.done ++ l) (ap (λ l. l ++ more) is_line ∙ ap (λ l. take n rest ++ l) is_more ∙ take-append-drop n rest)
      ∙ w.parts;
  whole = appends_both before.written now.written next.written w.done line w.whole appends;
  faults = kept ∙ w.faults;
}

empty : (rest : List ℕ) → length rest ≡ 0 → rest ≡ []
empty [] h = refl
empty (byte ∷ rest) h = absurd (omega (arith, h))

pub written_end : (before now : SinkState) (text rest : List ℕ) → IsWritten before now text rest → length rest ≡ 0 → Wrote before now text
written_end before now text rest w none =
    let all : w.done ≡ text = sym (append-nil w.done) ∙ ap (λ l. w.done ++ l) (sym (empty rest none)) ∙ w.parts in
    record { whole = subst (λ (bytes : List ℕ). Appends before.written now.written bytes) all w.whole; faults = w.faults }

pub written_part : (before now next : SinkState) (text rest line : List ℕ) (n : ℕ) → IsWritten before now text rest → line ≡ take n rest
    → AppendsPart now.written next.written line → Rose now.faults next.faults → WrotePart before next text
written_part before now next text rest line n w is_line part rose =
    let front = appends_front now.written next.written line (drop n rest) part in
    let is : line ++ drop n rest ≡ rest = ap (λ l. l ++ drop n rest) is_line ∙ take-append-drop n rest in
    let behind = subst (λ (bytes : List ℕ). AppendsPart now.written next.written bytes) is front in
    record {
      part = subst (λ (bytes : List ℕ). AppendsPart before.written next.written bytes) w.parts (appends_then_part before.written now.written next.written w.done rest w.whole behind);
      rose = subst (λ (n : ℕ). Rose n next.faults) w.faults rose;
    }
