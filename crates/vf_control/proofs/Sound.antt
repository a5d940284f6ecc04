-- What the readers read is what the grammar says.
use Rattle.std.proofs.Common.{◌≡◌, ℕ, zero, suc, List, [], ◌∷◌, length, Option, Some, None, refl, ap, subst, sym, ◌∙◌, inl, inr, codes}
use Rattle.vf_base.specs.declared.names.Place.{Place}
use Rattle.vf_lexeme.specs.declared.kinds.TokenKind.{TokenKind}
use Rattle.vf_lexeme.specs.declared.kinds.TokenKind.TheVariants as token
use Rattle.vf_lex.specs.declared.token.Token.{Token}
use Rattle.vf_tree.specs.declared.expressions.TreeExpr.{TreeExpr}
use Rattle.vf_tree.specs.declared.statements.Target.{Target}
use Rattle.vf_tree.specs.declared.statements.Delay.{Delay}
use Rattle.vf_tree.specs.declared.statements.DelayForm.TheVariants as delays
use Rattle.vf_tree.specs.declared.statements.EdgeWord.{EdgeWord}
use Rattle.vf_tree.specs.declared.statements.Event.{Event}
use Rattle.vf_tree.specs.declared.statements.EventJoin.{EventJoin}
use Rattle.vf_tree.specs.declared.statements.NextEvent.{NextEvent}
use Rattle.vf_tree.specs.declared.statements.Events.{Events}
use Rattle.vf_tree.specs.declared.statements.EventsForm.TheVariants as waits
use Rattle.vf_tree.specs.declared.statements.Arg.{Arg}
use Rattle.vf_tree.specs.declared.statements.ShowWord.{ShowWord}
use Rattle.vf_tree.specs.declared.statements.SaveWord.{SaveWord}
use Rattle.vf_tree.specs.declared.statements.EndWord.{EndWord}
use Rattle.vf_tree.specs.declared.statements.Task.{Task}
use Rattle.vf_tree.specs.declared.statements.TaskForm.TheVariants as tasks
use Rattle.vf_expression.specs.Grammar.{Tokens, sign, word, name, system, IsExpr}
use Rattle.vf_expression.specs.Reading.{Read, ◌>>=◌, is_sign, after, selects_at, closed_at, expr_at}
use Rattle.vf_expression.proofs.CallerLemmas.{bind_some, some_is, found_is, chosen, kind_is, token_is, after_is, expr_read, selects_read, closed_read}
use Rattle.vf_control.specs.Lists.{Part, IsMany, IsList, many_from, list_at}
use Rattle.vf_control.specs.Words.{edge_of, show_of, save_of, end_of}
use Rattle.vf_control.specs.Grammar.{quoted, named, joined, delayed, event, waited, quoted_arg, value_arg, called, IsTargetOver, single, concat, IsTargetWithin, IsDelay, by_number, by_name, by_expr, IsBit, whole, one_bit, IsEvent, change, edged, IsNextEvent, by_or, by_comma, IsEvents, star, star_paren, name_alone, event_list, IsArg, string, value, IsTask, show, show_args, save, end, end_number}
use Rattle.vf_control.specs.Reading as reading
use Rattle.vf_control.specs.Reading.{string_at, join_at, concat_at, named_at, target_by, target_over, target_within, delay_expr, delay_by, delay_after, delay_at, bit_from, bit_at, named_event, edged_by, edged_event, word_event, event_by, event_at, next_event, events_paren, events_sign, events_by, events_at, arg_value, arg_at, show_from, save_from, end_from, ended_by, saved_by, called_by, task_by, task_at}
use Rattle.vf_control.proofs.ListLemmas.{many_read, list_read}
use Rattle.vf_control.proofs.WordLemmas.{taken, done, string_is, IsJoined, or, comma, join_is}

module _ (d : ℕ) where
  -- ---- targets

  module _ (One : Part Target) (one : Tokens → Read Target) (sound : (ts : Tokens) (x : Target × ℕ × Tokens) → one ts ≡ Some x → One x.1 ts x.2 x.0) where
    named_is : (p : Place) (text : List ℕ) (ts : Tokens) (x : Target × ℕ × Tokens) → named_at (expr_at d) p text ts ≡ Some x → IsTargetOver (IsExpr d) One x.1 (name p text ∷ ts) x.2 x.0
    unfolding named_at
    named_is p text ts x e =
        let s = bind_some (selects_at (expr_at d) ts) (λ s. Some (named p text s.0, s.1, s.2)) x e in
        done (IsTargetOver (IsExpr d) One) (name p text ∷ ts) (named p text s.0.0, s.0.1, s.0.2) x s.2 (single p text ts s.0.0 (selects_read d ts s.0 s.1) refl refl)

    concat_is : (p : Place) (ts : Tokens) (x : Target × ℕ × Tokens) → concat_at one p ts ≡ Some x → IsTargetOver (IsExpr d) One x.1 (sign p (codes "{") ∷ ts) x.2 x.0
    unfolding concat_at
    concat_is p ts x e =
        let l = bind_some (list_at one ts) (λ l. after (codes "}") l.2 >>= λ rest. Some (joined p l.0, l.1, rest)) x e in
        let r = bind_some (after (codes "}") l.0.2) (λ rest. Some (joined p l.0.0, l.0.1, rest)) x l.2 in
        let q = after_is (codes "}") l.0.2 r.0 r.1 in
        let list : IsList One l.0.1 ts (sign q.0 (codes "}") ∷ r.0) l.0.0 = subst (λ ws. IsList One l.0.1 ts ws l.0.0) q.1 (list_read One one sound ts l.0 l.1) in
        done (IsTargetOver (IsExpr d) One) (sign p (codes "{") ∷ ts) (joined p l.0.0, l.0.1, r.0) x r.2 (concat p q.0 ts l.0.0 list refl refl)

    target_kind : (k : TokenKind) (p : Place) (ts : Tokens) (x : Target × ℕ × Tokens) → target_by (expr_at d) one k p ts ≡ Some x → IsTargetOver (IsExpr d) One x.1 (record { kind = k; place = p } ∷ ts) x.2 x.0
    target_kind (token.Name text) p ts x e = named_is p text ts x e
    target_kind (token.Sign text) p ts x e =
        let R : List ℕ → Type 0 = λ t. IsTargetOver (IsExpr d) One x.1 (sign p t ∷ ts) x.2 x.0 in
        chosen text (codes "{") _ _ x R e (λ a. concat_is p ts x a) (λ e. absurd cc)
    target_kind (token.System text) p ts x e = absurd cc
    target_kind (token.Word text) p ts x e = absurd cc
    target_kind (token.Number v) p ts x e = absurd cc
    target_kind (token.Quoted text) p ts x e = absurd cc

    target_over_is : (ts : Tokens) (x : Target × ℕ × Tokens) → target_over (expr_at d) one ts ≡ Some x → IsTargetOver (IsExpr d) One x.1 ts x.2 x.0
    unfolding target_over
    target_over_is [] x e = absurd cc
    target_over_is (t ∷ ts) x e = target_kind t.kind t.place ts x e

  pub target_is : (nesting : ℕ) (ts : Tokens) (x : Target × ℕ × Tokens) → target_within (expr_at d) nesting ts ≡ Some x → IsTargetWithin (IsExpr d) nesting x.1 ts x.2 x.0
  unfolding target_within IsTargetWithin
  target_is zero ts x e = absurd cc
  target_is (suc nesting) ts x e = target_over_is (IsTargetWithin (IsExpr d) nesting) (target_within (expr_at d) nesting) (target_is nesting) ts x e

  -- ---- delays

  delay_expr_is : (p q : Place) (ts : Tokens) (x : Delay × ℕ × Tokens) → delay_expr (expr_at d) p ts ≡ Some x → IsDelay (IsExpr d) x.1 (sign p (codes "#") ∷ sign q (codes "(") ∷ ts) x.2 x.0
  unfolding delay_expr
  delay_expr_is p q ts x e =
      let a = bind_some (closed_at (expr_at d) ts) (λ a. Some (delayed p (delays.Expr a.0), a.1, a.2)) x e in
      let c = closed_read d ts a.0 a.1 in
      done (IsDelay (IsExpr d)) (sign p (codes "#") ∷ sign q (codes "(") ∷ ts) (delayed p (delays.Expr a.0.0), a.0.1, a.0.2) x a.2 (by_expr p q c.0 ts a.0.0 c.1 refl refl)

  delay_kind : (p : Place) (k : TokenKind) (q : Place) (ts : Tokens) (x : Delay × ℕ × Tokens) → delay_by (expr_at d) p k q ts ≡ Some x → IsDelay (IsExpr d) x.1 (sign p (codes "#") ∷ record { kind = k; place = q } ∷ ts) x.2 x.0
  delay_kind p (token.Number v) q ts x e =
      done (IsDelay (IsExpr d)) (sign p (codes "#") ∷ record { kind = token.Number v; place = q } ∷ ts) (delayed p (delays.Number (record { value = v; place = q })), 0, ts) x e (by_number p q v refl refl refl)
  delay_kind p (token.Name text) q ts x e =
      done (IsDelay (IsExpr d)) (sign p (codes "#") ∷ name q text ∷ ts) (delayed p (delays.Name (record { text = text; place = q })), 0, ts) x e (by_name p q text refl refl refl)
  delay_kind p (token.Sign text) q ts x e =
      let R : List ℕ → Type 0 = λ t. IsDelay (IsExpr d) x.1 (sign p (codes "#") ∷ sign q t ∷ ts) x.2 x.0 in
      chosen text (codes "(") _ _ x R e (λ a. delay_expr_is p q ts x a) (λ e. absurd cc)
  delay_kind p (token.System text) q ts x e = absurd cc
  delay_kind p (token.Word text) q ts x e = absurd cc
  delay_kind p (token.Quoted text) q ts x e = absurd cc

  delay_after_is : (p : Place) (ts : Tokens) (x : Delay × ℕ × Tokens) → delay_after (expr_at d) p ts ≡ Some x → IsDelay (IsExpr d) x.1 (sign p (codes "#") ∷ ts) x.2 x.0
  unfolding delay_after
  delay_after_is p [] x e = absurd cc
  delay_after_is p (t ∷ ts) x e = delay_kind p t.kind t.place ts x e

  pub delay_is : (ts : Tokens) (x : Delay × ℕ × Tokens) → delay_at (expr_at d) ts ≡ Some x → IsDelay (IsExpr d) x.1 ts x.2 x.0
  unfolding delay_at
  delay_is [] x e = absurd cc
  delay_is (t ∷ ts) x e =
      let g = taken (is_sign (codes "#") t.kind) (delay_after (expr_at d) t.place ts) x e in
      let same : t ≡ sign t.place (codes "#") = token_is t (token.Sign (codes "#")) (kind_is (codes "#") t.kind g.0) in
      subst (λ (u : Token). IsDelay (IsExpr d) x.1 (u ∷ ts) x.2 x.0) (sym same) (delay_after_is t.place ts x g.1)

  -- ---- events

  bit_is : (ts : Tokens) (x : Option TreeExpr × ℕ × Tokens) → bit_at (expr_at d) ts ≡ Some x → IsBit (IsExpr d) x.1 ts x.2 x.0
  unfolding bit_at bit_from
  bit_is ts x e =
      elim (found_is (after (codes "[") ts) (λ us. bit_from (expr_at d) us) (Some (None, 0, ts)) x e) [
        | inl o ↦
            let a = bind_some (expr_at d 1 o.0) (λ a. after (codes "]") a.2 >>= λ rest. Some (Some a.0, a.1, rest)) x o.2 in
            let r = bind_some (after (codes "]") a.0.2) (λ rest. Some (Some a.0.0, a.0.1, rest)) x a.2 in
            let p = after_is (codes "[") ts o.0 o.1 in
            let q = after_is (codes "]") a.0.2 r.0 r.1 in
            let tree : IsExpr d 1 a.0.1 o.0 (sign q.0 (codes "]") ∷ r.0) a.0.0 = subst (λ us. IsExpr d 1 a.0.1 o.0 us a.0.0) q.1 (expr_read d 1 o.0 a.0 a.1) in
            done (IsBit (IsExpr d)) ts (Some a.0.0, a.0.1, r.0) x r.2 (one_bit p.0 q.0 o.0 a.0.0 tree p.1 refl)
        | inr o ↦ done (IsBit (IsExpr d)) ts (None, 0, ts) x o.1 (whole refl refl refl)
      ]

  -- an event from its name on
  record Bits (p : Place) (e : Option EdgeWord) (q : Place) (text : List ℕ) (ts : Tokens) (x : Event × ℕ × Tokens) : Type 0 where
    bit : Option TreeExpr
    is : IsBit (IsExpr d) x.1 ts x.2 bit
    same : x.0 ≡ event p e q text bit

  named_event_is : (p : Place) (e : Option EdgeWord) (q : Place) (text : List ℕ) (ts : Tokens) (x : Event × ℕ × Tokens) → named_event (expr_at d) p e q text ts ≡ Some x → Bits p e q text ts x
  unfolding named_event
  named_event_is p e q text ts x h =
      let b = bind_some (bit_at (expr_at d) ts) (λ b. Some (event p e q text b.0, b.1, b.2)) x h in
      subst (λ (z : Event × ℕ × Tokens). Bits p e q text ts z) (some_is (event p e q text b.0.0, b.0.1, b.0.2) x b.2) (record { bit = b.0.0; is = bit_is ts b.0 b.1; same = refl })

  edged_kind : (p : Place) (s : List ℕ) (e : EdgeWord) (k : TokenKind) (q : Place) (ts : Tokens) (x : Event × ℕ × Tokens) → edge_of s ≡ Some e → edged_by (expr_at d) p e k q ts ≡ Some x
      → IsEvent (IsExpr d) x.1 (word p s ∷ record { kind = k; place = q } ∷ ts) x.2 x.0
  edged_kind p s e (token.Name text) q ts x meant h =
      let b = named_event_is p (Some e) q text ts x h in
      edged p q s text e ts b.bit b.is meant refl b.same
  edged_kind p s e (token.Sign text) q ts x meant h = absurd cc
  edged_kind p s e (token.System text) q ts x meant h = absurd cc
  edged_kind p s e (token.Word text) q ts x meant h = absurd cc
  edged_kind p s e (token.Number v) q ts x meant h = absurd cc
  edged_kind p s e (token.Quoted text) q ts x meant h = absurd cc

  edged_is : (p : Place) (s : List ℕ) (e : EdgeWord) (ts : Tokens) (x : Event × ℕ × Tokens) → edge_of s ≡ Some e → edged_event (expr_at d) p e ts ≡ Some x → IsEvent (IsExpr d) x.1 (word p s ∷ ts) x.2 x.0
  unfolding edged_event
  edged_is p s e [] x meant h = absurd cc
  edged_is p s e (t ∷ ts) x meant h = edged_kind p s e t.kind t.place ts x meant h

  word_event_is : (p : Place) (s : List ℕ) (ts : Tokens) (x : Event × ℕ × Tokens) → word_event (expr_at d) p s ts ≡ Some x → IsEvent (IsExpr d) x.1 (word p s ∷ ts) x.2 x.0
  unfolding word_event
  word_event_is p s ts x h =
      let e = bind_some (edge_of s) (λ e. edged_event (expr_at d) p e ts) x h in
      edged_is p s e.0 ts x e.1 e.2

  event_kind : (k : TokenKind) (p : Place) (ts : Tokens) (x : Event × ℕ × Tokens) → event_by (expr_at d) k p ts ≡ Some x → IsEvent (IsExpr d) x.1 (record { kind = k; place = p } ∷ ts) x.2 x.0
  event_kind (token.Name text) p ts x h =
      let b = named_event_is p None p text ts x h in
      change p text ts b.bit b.is refl b.same
  event_kind (token.Word text) p ts x h = word_event_is p text ts x h
  event_kind (token.Sign text) p ts x h = absurd cc
  event_kind (token.System text) p ts x h = absurd cc
  event_kind (token.Number v) p ts x h = absurd cc
  event_kind (token.Quoted text) p ts x h = absurd cc

  event_is : (ts : Tokens) (x : Event × ℕ × Tokens) → event_at (expr_at d) ts ≡ Some x → IsEvent (IsExpr d) x.1 ts x.2 x.0
  unfolding event_at
  event_is [] x h = absurd cc
  event_is (t ∷ ts) x h = event_kind t.kind t.place ts x h

  joined_is : (ts : Tokens) (s : EventJoin × Tokens) (n : ℕ) (rest : Tokens) (e : Event) → IsJoined ts s → IsEvent (IsExpr d) n s.1 rest e → IsNextEvent (IsExpr d) n ts rest (record { join = s.0; event = e })
  joined_is ts s n rest e (or p spelled meant) is = by_or p s.1 e is spelled (ap (λ (j : EventJoin). record { join = j; event = e }) meant)
  joined_is ts s n rest e (comma p spelled meant) is = by_comma p s.1 e is spelled (ap (λ (j : EventJoin). record { join = j; event = e }) meant)

  next_event_is : (ts : Tokens) (s : EventJoin × Tokens) (x : NextEvent × ℕ × Tokens) → join_at ts ≡ Some s → next_event (expr_at d) s ≡ Some x → IsNextEvent (IsExpr d) x.1 ts x.2 x.0
  unfolding next_event
  next_event_is ts s x found h =
      let a = bind_some (event_at (expr_at d) s.1) (λ a. Some (record { join = s.0; event = a.0 }, a.1, a.2)) x h in
      done (IsNextEvent (IsExpr d)) ts (record { join = s.0; event = a.0.0 }, a.0.1, a.0.2) x a.2 (joined_is ts s a.0.1 a.0.2 a.0.0 (join_is ts s found) (event_is s.1 a.0 a.1))

  event_list_is : (p : Place) (ts : Tokens) (x : Events × ℕ × Tokens) → reading.event_list (expr_at d) p ts ≡ Some x → IsEvents (IsExpr d) x.1 (sign p (codes "(") ∷ ts) x.2 x.0
  unfolding reading.event_list
  event_list_is p ts x h =
      let a = bind_some (event_at (expr_at d) ts) (λ a. many_from join_at (next_event (expr_at d)) (length a.2) [] a.1 a.2 >>= λ l. after (codes ")") l.2 >>= λ rest. Some (waited p (waits.List a.0 l.0), l.1, rest)) x h in
      let l = bind_some (many_from join_at (next_event (expr_at d)) (length a.0.2) [] a.0.1 a.0.2) (λ l. after (codes ")") l.2 >>= λ rest. Some (waited p (waits.List a.0.0 l.0), l.1, rest)) x a.2 in
      let r = bind_some (after (codes ")") l.0.2) (λ rest. Some (waited p (waits.List a.0.0 l.0.0), l.0.1, rest)) x l.2 in
      let q = after_is (codes ")") l.0.2 r.0 r.1 in
      let m = many_read (IsNextEvent (IsExpr d)) join_at (next_event (expr_at d)) next_event_is (length a.0.2) [] a.0.1 a.0.2 l.0 l.1 in
      let others : IsMany (IsNextEvent (IsExpr d)) m.depth a.0.2 (sign q.0 (codes ")") ∷ r.0) l.0.0
      = subst (λ ws. IsMany (IsNextEvent (IsExpr d)) m.depth a.0.2 ws l.0.0) q.1 (subst (λ (es : List NextEvent). IsMany (IsNextEvent (IsExpr d)) m.depth a.0.2 l.0.2 es) (sym m.joined) m.is) in
      done (IsEvents (IsExpr d)) (sign p (codes "(") ∷ ts) (waited p (waits.List a.0.0 l.0.0), l.0.1, r.0) x r.2
      (event_list a.0.1 m.depth p q.0 ts a.0.2 a.0.0 l.0.0 (event_is ts a.0 a.1) others refl m.deepest refl)

  star_paren_is : (p q : Place) (ts : Tokens) (x : Events × ℕ × Tokens) → reading.star_paren p ts ≡ Some x → IsEvents (IsExpr d) x.1 (sign p (codes "(") ∷ sign q (codes "*") ∷ ts) x.2 x.0
  unfolding reading.star_paren
  star_paren_is p q ts x h =
      let r = bind_some (after (codes ")") ts) (λ rest. Some (waited p waits.StarParen, 0, rest)) x h in
      let s = after_is (codes ")") ts r.0 r.1 in
      done (IsEvents (IsExpr d)) (sign p (codes "(") ∷ sign q (codes "*") ∷ ts) (waited p waits.StarParen, 0, r.0) x r.2
      (star_paren p q s.0 (ap (λ (us : Tokens). sign p (codes "(") ∷ sign q (codes "*") ∷ us) s.1) refl refl)

  events_paren_is : (p : Place) (ts : Tokens) (x : Events × ℕ × Tokens) → events_paren (expr_at d) p ts ≡ Some x → IsEvents (IsExpr d) x.1 (sign p (codes "(") ∷ ts) x.2 x.0
  unfolding events_paren
  events_paren_is p ts x h =
      elim (found_is (after (codes "*") ts) (λ us. reading.star_paren p us) (reading.event_list (expr_at d) p ts) x h) [
        | inl o ↦
            let q = after_is (codes "*") ts o.0 o.1 in
            subst (λ (us : Tokens). IsEvents (IsExpr d) x.1 (sign p (codes "(") ∷ us) x.2 x.0) (sym q.1) (star_paren_is p q.0 o.0 x o.2)
        | inr o ↦ event_list_is p ts x o.1
      ]

  events_sign_is : (p : Place) (text : List ℕ) (ts : Tokens) (x : Events × ℕ × Tokens) → events_sign (expr_at d) p text ts ≡ Some x → IsEvents (IsExpr d) x.1 (sign p text ∷ ts) x.2 x.0
  unfolding events_sign
  events_sign_is p text ts x h =
      let R : List ℕ → Type 0 = λ t. IsEvents (IsExpr d) x.1 (sign p t ∷ ts) x.2 x.0 in
      chosen text (codes "*") _ _ x R h (λ a. done (IsEvents (IsExpr d)) (sign p (codes "*") ∷ ts) (waited p waits.Star, 0, ts) x a (star p refl refl refl)) (λ e.
      chosen text (codes "(") _ _ x R e (λ a. events_paren_is p ts x a) (λ e. absurd cc))

  events_kind : (k : TokenKind) (p : Place) (ts : Tokens) (x : Events × ℕ × Tokens) → events_by (expr_at d) k p ts ≡ Some x → IsEvents (IsExpr d) x.1 (record { kind = k; place = p } ∷ ts) x.2 x.0
  events_kind (token.Name text) p ts x h =
      done (IsEvents (IsExpr d)) (name p text ∷ ts) (waited p (waits.Name (record { text = text; place = p })), 0, ts) x h (name_alone p text refl refl refl)
  events_kind (token.Sign text) p ts x h = events_sign_is p text ts x h
  events_kind (token.System text) p ts x h = absurd cc
  events_kind (token.Word text) p ts x h = absurd cc
  events_kind (token.Number v) p ts x h = absurd cc
  events_kind (token.Quoted text) p ts x h = absurd cc

  pub events_are : (ts : Tokens) (x : Events × ℕ × Tokens) → events_at (expr_at d) ts ≡ Some x → IsEvents (IsExpr d) x.1 ts x.2 x.0
  unfolding events_at
  events_are [] x h = absurd cc
  events_are (t ∷ ts) x h = events_kind t.kind t.place ts x h

  -- ---- system tasks

  arg_is : (ts : Tokens) (x : Arg × ℕ × Tokens) → arg_at (expr_at d) ts ≡ Some x → IsArg (IsExpr d) x.1 ts x.2 x.0
  unfolding arg_at arg_value
  arg_is ts x h =
      elim (found_is (string_at ts) (λ s. Some (quoted_arg s.1 s.0, 0, s.2)) (arg_value (expr_at d) ts) x h) [
        | inl o ↦ done (IsArg (IsExpr d)) ts (quoted_arg o.0.1 o.0.0, 0, o.0.2) x o.2 (string o.0.1 o.0.0 (string_is ts o.0 o.1) refl refl)
        | inr o ↦
            let a = bind_some (expr_at d 1 ts) (λ a. Some (value_arg a.0, a.1, a.2)) x o.1 in
            done (IsArg (IsExpr d)) ts (value_arg a.0.0, a.0.1, a.0.2) x a.2 (value a.0.0 (expr_read d 1 ts a.0 a.1) refl)
      ]

  show_args_is : (p q : Place) (text : List ℕ) (w : ShowWord) (ts : Tokens) (x : Task × ℕ × Tokens) → show_of text ≡ Some w → reading.show_args (expr_at d) p w ts ≡ Some x
      → IsTask (IsExpr d) x.1 (system p text ∷ sign q (codes "(") ∷ ts) x.2 x.0
  unfolding reading.show_args
  show_args_is p q text w ts x meant h =
      let l = bind_some (list_at (arg_at (expr_at d)) ts) (λ l. after (codes ")") l.2 >>= λ rest. Some (called p (tasks.Show w (Some l.0)), l.1, rest)) x h in
      let r = bind_some (after (codes ")") l.0.2) (λ rest. Some (called p (tasks.Show w (Some l.0.0)), l.0.1, rest)) x l.2 in
      let s = after_is (codes ")") l.0.2 r.0 r.1 in
      let list : IsList (IsArg (IsExpr d)) l.0.1 ts (sign s.0 (codes ")") ∷ r.0) l.0.0 = subst (λ ws. IsList (IsArg (IsExpr d)) l.0.1 ts ws l.0.0) s.1 (list_read (IsArg (IsExpr d)) (arg_at (expr_at d)) arg_is ts l.0 l.1) in
      done (IsTask (IsExpr d)) (system p text ∷ sign q (codes "(") ∷ ts) (called p (tasks.Show w (Some l.0.0)), l.0.1, r.0) x r.2 (show_args p q s.0 text w ts l.0.0 list meant refl refl)

  show_is : (p : Place) (text : List ℕ) (w : ShowWord) (ts : Tokens) (x : Task × ℕ × Tokens) → show_of text ≡ Some w → show_from (expr_at d) p w ts ≡ Some x → IsTask (IsExpr d) x.1 (system p text ∷ ts) x.2 x.0
  unfolding show_from
  show_is p text w ts x meant h =
      elim (found_is (after (codes "(") ts) (λ us. reading.show_args (expr_at d) p w us) (Some (called p (tasks.Show w None), 0, ts)) x h) [
        | inl o ↦
            let q = after_is (codes "(") ts o.0 o.1 in
            subst (λ (us : Tokens). IsTask (IsExpr d) x.1 (system p text ∷ us) x.2 x.0) (sym q.1) (show_args_is p q.0 text w o.0 x meant o.2)
        | inr o ↦ done (IsTask (IsExpr d)) (system p text ∷ ts) (called p (tasks.Show w None), 0, ts) x o.1 (show p text w meant refl refl refl)
      ]

  save_is : (p : Place) (text : List ℕ) (w : SaveWord) (ts : Tokens) (x : Task × ℕ × Tokens) → save_of text ≡ Some w → save_from p w ts ≡ Some x → IsTask (IsExpr d) x.1 (system p text ∷ ts) x.2 x.0
  unfolding save_from
  save_is p text w ts x meant h =
      let u = bind_some (after (codes "(") ts) (λ us. string_at us >>= λ s. after (codes ")") s.2 >>= λ rest. Some (called p (tasks.Save w (record { text = s.0; place = s.1 })), 0, rest)) x h in
      let s = bind_some (string_at u.0) (λ s. after (codes ")") s.2 >>= λ rest. Some (called p (tasks.Save w (record { text = s.0; place = s.1 })), 0, rest)) x u.2 in
      let r = bind_some (after (codes ")") s.0.2) (λ rest. Some (called p (tasks.Save w (record { text = s.0.0; place = s.0.1 })), 0, rest)) x s.2 in
      let q = after_is (codes "(") ts u.0 u.1 in
      let b = after_is (codes ")") s.0.2 r.0 r.1 in
      let inside : u.0 ≡ quoted s.0.1 s.0.0 ∷ sign b.0 (codes ")") ∷ r.0 = string_is u.0 s.0 s.1 ∙ ap (λ (us : Tokens). quoted s.0.1 s.0.0 ∷ us) b.1 in
      let spelled : ts ≡ sign q.0 (codes "(") ∷ quoted s.0.1 s.0.0 ∷ sign b.0 (codes ")") ∷ r.0 = q.1 ∙ ap (λ (us : Tokens). sign q.0 (codes "(") ∷ us) inside in
      done (IsTask (IsExpr d)) (system p text ∷ ts) (called p (tasks.Save w (record { text = s.0.0; place = s.0.1 })), 0, r.0) x r.2
      (save p q.0 s.0.1 b.0 text s.0.0 w meant (ap (λ (us : Tokens). system p text ∷ us) spelled) refl refl)

  end_number_is : (p q : Place) (text : List ℕ) (w : EndWord) (ts : Tokens) (x : Task × ℕ × Tokens) → end_of text ≡ Some w → reading.end_number (expr_at d) p w ts ≡ Some x → IsTask (IsExpr d) x.1 (system p text ∷ sign q (codes "(") ∷ ts) x.2 x.0
  unfolding reading.end_number
  end_number_is p q text w ts x meant h =
      let a = bind_some (closed_at (expr_at d) ts) (λ a. Some (called p (tasks.End w (Some a.0)), a.1, a.2)) x h in
      let c = closed_read d ts a.0 a.1 in
      done (IsTask (IsExpr d)) (system p text ∷ sign q (codes "(") ∷ ts) (called p (tasks.End w (Some a.0.0)), a.0.1, a.0.2) x a.2 (end_number p q c.0 text w ts a.0.0 c.1 meant refl refl)

  end_is : (p : Place) (text : List ℕ) (w : EndWord) (ts : Tokens) (x : Task × ℕ × Tokens) → end_of text ≡ Some w → end_from (expr_at d) p w ts ≡ Some x → IsTask (IsExpr d) x.1 (system p text ∷ ts) x.2 x.0
  unfolding end_from
  end_is p text w ts x meant h =
      elim (found_is (after (codes "(") ts) (λ us. reading.end_number (expr_at d) p w us) (Some (called p (tasks.End w None), 0, ts)) x h) [
        | inl o ↦
            let q = after_is (codes "(") ts o.0 o.1 in
            subst (λ (us : Tokens). IsTask (IsExpr d) x.1 (system p text ∷ us) x.2 x.0) (sym q.1) (end_number_is p q.0 text w o.0 x meant o.2)
        | inr o ↦ done (IsTask (IsExpr d)) (system p text ∷ ts) (called p (tasks.End w None), 0, ts) x o.1 (end p text w meant refl refl refl)
      ]

  ended_is : (p : Place) (text : List ℕ) (ts : Tokens) (x : Task × ℕ × Tokens) → ended_by (expr_at d) p text ts ≡ Some x → IsTask (IsExpr d) x.1 (system p text ∷ ts) x.2 x.0
  unfolding ended_by
  ended_is p text ts x h =
      let w = bind_some (end_of text) (λ w. end_from (expr_at d) p w ts) x h in
      end_is p text w.0 ts x w.1 w.2

  saved_is : (p : Place) (text : List ℕ) (ts : Tokens) (x : Task × ℕ × Tokens) → saved_by (expr_at d) p text ts ≡ Some x → IsTask (IsExpr d) x.1 (system p text ∷ ts) x.2 x.0
  unfolding saved_by
  saved_is p text ts x h =
      elim (found_is (save_of text) (λ w. save_from p w ts) (ended_by (expr_at d) p text ts) x h) [
        | inl o ↦ save_is p text o.0 ts x o.1 o.2
        | inr o ↦ ended_is p text ts x o.1
      ]

  called_is : (p : Place) (text : List ℕ) (ts : Tokens) (x : Task × ℕ × Tokens) → called_by (expr_at d) p text ts ≡ Some x → IsTask (IsExpr d) x.1 (system p text ∷ ts) x.2 x.0
  unfolding called_by
  called_is p text ts x h =
      elim (found_is (show_of text) (λ w. show_from (expr_at d) p w ts) (saved_by (expr_at d) p text ts) x h) [
        | inl o ↦ show_is p text o.0 ts x o.1 o.2
        | inr o ↦ saved_is p text ts x o.1
      ]

  task_kind : (k : TokenKind) (p : Place) (ts : Tokens) (x : Task × ℕ × Tokens) → task_by (expr_at d) k p ts ≡ Some x → IsTask (IsExpr d) x.1 (record { kind = k; place = p } ∷ ts) x.2 x.0
  task_kind (token.System text) p ts x h = called_is p text ts x h
  task_kind (token.Name text) p ts x h = absurd cc
  task_kind (token.Word text) p ts x h = absurd cc
  task_kind (token.Sign text) p ts x h = absurd cc
  task_kind (token.Number v) p ts x h = absurd cc
  task_kind (token.Quoted text) p ts x h = absurd cc

  pub task_is : (ts : Tokens) (x : Task × ℕ × Tokens) → task_at (expr_at d) ts ≡ Some x → IsTask (IsExpr d) x.1 ts x.2 x.0
  unfolding task_at
  task_is [] x h = absurd cc
  task_is (t ∷ ts) x h = task_kind t.kind t.place ts x h
