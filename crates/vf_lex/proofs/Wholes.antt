-- The end of a whole text, and the law that it is read in one way.
use Rattle.std.proofs.Common.{◌≡◌, ◌≢◌, ℕ, ◌≤◌, List, [], ◌∷◌, ◌++◌, length, get_or, reverse, Result, Ok, Err, IfErr, refl, ap, sym, ◌∙◌, arith}
use Rattle.std.proofs.lemmas.List.{reverse-append}
use Rattle.vf_lexeme.specs.Laws.{BeginsOnce, PassesOnce}
use Rattle.vf_macro.specs.Laws.{MacroTextsOnce}
use Rattle.vf_lex.specs.declared.fault.LexFault.{LexFault}
use Rattle.vf_lex.specs.declared.fault.LexKind.TheVariants.{BadCondition, Memory}
use Rattle.vf_lex.specs.declared.reader.Condition.{Condition}
use Rattle.vf_lex.specs.declared.token.Token.{Token}
use Rattle.vf_lex.specs.Answers.{Finishes}
use Rattle.vf_lex.specs.Around.{Around, Ended, Stopped, nothing_yet}
use Rattle.vf_lex.specs.Reads.{Reads}
use Rattle.vf_lex.specs.Tokens.{first_spot, IsTokens, IsFirstFault, stopped, open_end, TokensAreOne}
use Rattle.vf_lex.proofs.Once.{reads_once}

-- the outermost of conditions is the first that was opened
first_opened : (items : List Condition) (other : Condition) → 1 ≤ length items
    → (inner : List Condition) × (outer : Condition) × (reverse items ≡ inner ++ outer ∷ []) × (get_or items 0 other ≡ outer)
first_opened [] other h = absurd (omega (arith, h))
first_opened (condition ∷ more) other h = (reverse more, condition, reverse-append (condition ∷ []) more, refl)

pub outermost : (items seen : List Condition) (other : Condition) → seen ≡ items → 1 ≤ length seen
    → (inner : List Condition) × (outer : Condition) × (reverse items ≡ inner ++ outer ∷ []) × (get_or seen 0 other ≡ outer)
outermost items seen other is h =
    let o = first_opened seen other h in
    (o.0, o.1, ap reverse (sym is) ∙ o.2, o.3)

pub finished : {X : Type 0} (tokens : X → List Token) (result : Result X LexFault) (last : Around) (text : List ℕ)
    → Reads first_spot nothing_yet text (Ended last)
    → Finishes tokens result last → IfErr result (λ fault. fault.kind ≢ Memory → IsFirstFault text fault)
finished tokens (Ok x) last text reads f = tt
finished tokens (Err fault) last text reads f = λ _. open_end last f.0 f.1 reads f.2 f.3

module _ (begins : BeginsOnce) (passes : PassesOnce) (macro_texts : MacroTextsOnce) where
  tokens_once : (text : List ℕ) (one other : List Token) → IsTokens text one → IsTokens text other → one ≡ other
  tokens_once text one other a b =
      let same : Ended a.last ≡ Ended b.last = reads_once begins passes macro_texts a.reads b.reads in
      let last : a.last ≡ b.last = cc in
      a.tokens_are ∙ ap (λ (l : Around). l.tokens) last ∙ sym b.tokens_are

  last_once : (xs ys : List Condition) (x y : Condition) → xs ++ x ∷ [] ≡ ys ++ y ∷ [] → x ≡ y
  last_once xs ys x y e =
      let turned : x ∷ reverse xs ≡ y ∷ reverse ys = sym (reverse-append xs (x ∷ [])) ∙ ap reverse e
      ∙ reverse-append ys (y ∷ []) in
      cc

  fault_once : (text : List ℕ) (one other : LexFault) → IsFirstFault text one → IsFirstFault text other → one ≡ other
  fault_once text one other (stopped a) (stopped b) =
      let same : Stopped one ≡ Stopped other = reads_once begins passes macro_texts a b in cc
  fault_once text one other (stopped a) (open_end last inner outer b open_here is) = let same : Stopped one ≡ Ended
      last = reads_once begins passes macro_texts a b in absurd cc
  fault_once text one other (open_end last inner outer a open_here is) (stopped b) = let same : Ended last ≡ Stopped
      other = reads_once begins passes macro_texts a b in absurd cc
  fault_once text one other (open_end last inner outer a here is) (open_end last_2 inner_2 outer_2 b here_2 is_2) =
      let same : Ended last ≡ Ended last_2 = reads_once begins passes macro_texts a b in
      let same_last : last ≡ last_2 = cc in
      let conditions : inner ++ outer ∷ [] ≡ inner_2 ++ outer_2 ∷ [] = sym here ∙ ap (λ (l : Around). l.conditions) same_last
      ∙ here_2 in
      let outermost_is : outer ≡ outer_2 = last_once inner inner_2 outer outer_2 conditions in
      is ∙ ap (λ (c : Condition). let f : LexFault = record { kind = BadCondition; place = c.place } in f) outermost_is ∙ sym is_2

  some_last : (inner : List Condition) (outer : Condition) → [] ≡ inner ++ outer ∷ [] → ⊥
  some_last [] outer e = cc
  some_last (c ∷ inner) outer e = cc

  never_both : (text : List ℕ) (tokens : List Token) (fault : LexFault) → IsTokens text tokens → IsFirstFault text fault → ⊥
  never_both text tokens fault a (stopped b) =
      let same : Ended a.last ≡ Stopped fault = reads_once begins passes macro_texts a.reads b in absurd cc
  never_both text tokens fault a (open_end last inner outer b here is) =
      let same : Ended a.last ≡ Ended last = reads_once begins passes macro_texts a.reads b in
      let same_last : a.last ≡ last = cc in
      some_last inner outer (sym a.closed ∙ ap (λ (l : Around). l.conditions) same_last ∙ here)

  pub tokens_are_one : TokensAreOne
  tokens_are_one text = (tokens_once text, fault_once text, never_both text)
