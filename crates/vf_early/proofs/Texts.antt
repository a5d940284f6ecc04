-- The tokens of a text, one step at a time.
use Rattle.std.proofs.Common.{◌≡◌, ℕ, zero, suc, ◌<◌, ◌≤◌, true, false, eqb, ◌||◌, List, [], ◌∷◌, ◌++◌, length, take, drop, refl, ap, subst, sym, ◌∙◌, inl, inr, append_assoc, arith}
use Rattle.std.specs.List.{list_all}
use Rattle.std.proofs.lemmas.Bool.{cases_Bool, and_parts, and_from, or_cases, eqb-true, both_ways, false_from_ne_true}
use Rattle.std.proofs.lemmas.List.{append-nil, length-append, length-drop, take_at, drop_at, take-append-drop}
use Rattle.vf_early.specs.Tokens.{is_blank, is_word_byte, IsToken, word, quoted, semicolon, open_paren, close_paren, minus, comma, equal, differs, assign, IsTokens}
use Rattle.vf_early.specs.Reading.{token_length}
use Rattle.vf_early.proofs.Tokens.{measured, token_found}

blank_ends : (b : ℕ) → is_blank b ≡ true → is_word_byte b ≡ false
blank_ends b h =
    let a = λ (n : ℕ) (e : eqb b n ≡ true) (f : is_word_byte n ≡ false). let same : is_word_byte b ≡ false = ap is_word_byte (eqb-true b n e) ∙ f in same in
    elim (or_cases (eqb b 32 || eqb b 9 || eqb b 10 || eqb b 12) (eqb b 13) h) [
      | inr at ↦ a 13 at refl
      | inl h ↦ elim (or_cases (eqb b 32 || eqb b 9 || eqb b 10) (eqb b 12) h) [
        | inr at ↦ a 12 at refl
        | inl h ↦ elim (or_cases (eqb b 32 || eqb b 9) (eqb b 10) h) [
          | inr at ↦ a 10 at refl
          | inl h ↦ elim (or_cases (eqb b 32) (eqb b 9) h) [
            | inr at ↦ a 9 at refl
            | inl at ↦ a 32 at refl
          ]
        ]
      ]
    ]

-- a token is not empty, and begins with no blank
pub record Begins (token : List ℕ) : Type 0 where
  pub first : ℕ
  pub more : List ℕ
  pub is : token ≡ first ∷ more
  pub no_blank : is_blank first ≡ false

pub begins : (token rest : List ℕ) → IsToken token rest → Begins token
begins token rest (word first more a b ends e) = record { first = first; more = more; is = e; no_blank = false_from_ne_true (is_blank first) (λ blank. both_ways (is_word_byte first) (blank_ends first blank) a) }
begins token rest (quoted inside q e) = record { first = 34; more = inside ++ 34 ∷ []; is = e; no_blank = refl }
begins token rest (semicolon e) = record { first = 59; more = []; is = e; no_blank = refl }
begins token rest (open_paren e) = record { first = 40; more = []; is = e; no_blank = refl }
begins token rest (close_paren e) = record { first = 41; more = []; is = e; no_blank = refl }
begins token rest (minus e) = record { first = 45; more = []; is = e; no_blank = refl }
begins token rest (comma e) = record { first = 44; more = []; is = e; no_blank = refl }
begins token rest (equal e) = record { first = 61; more = 61 ∷ []; is = e; no_blank = refl }
begins token rest (differs e) = record { first = 33; more = 61 ∷ []; is = e; no_blank = refl }
begins token rest (assign ends e) = record { first = 61; more = []; is = e; no_blank = refl }

-- ---- a blank

pub behind_blank : (b : ℕ) (rest : List ℕ) (tokens : List (List ℕ)) → is_blank b ≡ true → IsTokens rest tokens → IsTokens (b ∷ rest) tokens
behind_blank b rest [] h given = and_from (is_blank b) (list_all is_blank rest) h given
behind_blank b rest (t ∷ ts) h given = (b ∷ given.0, given.1, and_from (is_blank b) (list_all is_blank given.0) h given.2, given.3, ap (λ (bytes : List ℕ). b ∷ bytes) given.4, given.5)

blank_front : (b : ℕ) (rest blanks token more : List ℕ) → is_blank b ≡ true → list_all is_blank blanks ≡ true → IsToken token more → b ∷ rest ≡ blanks ++ (token ++ more)
    → (others : List ℕ) × (list_all is_blank others ≡ true) × (rest ≡ others ++ (token ++ more))
blank_front b rest [] token more h all is e =
    let t = begins token more is in
    let heads : b ∷ rest ≡ t.first ∷ (t.more ++ more) = e ∙ ap (λ (x : List ℕ). x ++ more) t.is in
    let same : b ≡ t.first = cc in
    absurd (both_ways (is_blank b) (ap is_blank same ∙ t.no_blank) h)
blank_front b rest (c ∷ blanks) token more h all is e = (blanks, (and_parts (is_blank c) (list_all is_blank blanks) all).1, cc)

pub at_blank : (b : ℕ) (rest : List ℕ) (tokens : List (List ℕ)) → is_blank b ≡ true → IsTokens (b ∷ rest) tokens → IsTokens rest tokens
at_blank b rest [] h given = (and_parts (is_blank b) (list_all is_blank rest) given).1
at_blank b rest (t ∷ ts) h given =
    let p = blank_front b rest given.0 t given.1 h given.2 given.3 given.4 in
    (p.0, given.1, p.1, given.3, p.2, given.5)

-- ---- a token

pub behind_token : (token rest : List ℕ) (tokens : List (List ℕ)) → IsToken token rest → IsTokens rest tokens → IsTokens (token ++ rest) (token ∷ tokens)
behind_token token rest tokens is given = ([], rest, refl, is, refl, given)

-- the tokens of a text that begins with no blank: the one that is measured, and those after it
pub record Splits (bytes : List ℕ) (tokens : List (List ℕ)) (n : ℕ) : Type 0 where
  pub some : 0 < n
  pub others : List (List ℕ)
  pub parts : tokens ≡ take n bytes ∷ others
  pub behind : IsTokens (drop n bytes) others

at_front : (bytes token more : List ℕ) (others : List (List ℕ)) → IsToken token more → bytes ≡ token ++ more → IsTokens more others → Splits bytes (token ∷ others) (token_length bytes)
at_front bytes token more others is e given =
    let n_is : token_length bytes ≡ length token = ap token_length e ∙ measured token more is in
    let t = begins token more is in
    let size : length token ≡ suc (length t.more) = ap length t.is in
    rw (n_is, e) (record { some = omega arith; others = others; parts = ap (λ (x : List ℕ). x ∷ others) (sym (take_at token more (length token) refl)); behind = rw (drop_at token more (length token) refl) given })

by_blanks : (b : ℕ) (rest blanks token more : List ℕ) (others : List (List ℕ)) → is_blank b ≡ false → list_all is_blank blanks ≡ true → IsToken token more → b ∷ rest ≡ blanks ++ (token ++ more)
    → IsTokens more others → Splits (b ∷ rest) (token ∷ others) (token_length (b ∷ rest))
by_blanks b rest [] token more others h all is e given = at_front (b ∷ rest) token more others is e given
by_blanks b rest (c ∷ blanks) token more others h all is e given =
    let same : b ≡ c = cc in
    absurd (both_ways (is_blank b) h (ap is_blank same ∙ (and_parts (is_blank c) (list_all is_blank blanks) all).0))

pub at_token : (b : ℕ) (rest : List ℕ) (tokens : List (List ℕ)) → is_blank b ≡ false → IsTokens (b ∷ rest) tokens → Splits (b ∷ rest) tokens (token_length (b ∷ rest))
at_token b rest [] h given = absurd (both_ways (is_blank b) h (and_parts (is_blank b) (list_all is_blank rest) given).0)
at_token b rest (t ∷ ts) h given = by_blanks b rest given.0 t given.1 ts h given.2 given.3 given.4 given.5

-- ---- a whole text, up to a place

-- the tokens so far, and what is still to come
pub record IsCut (bytes : List ℕ) (front : List (List ℕ)) (rest : List ℕ) : Type 0 where
  pub sound : (tokens : List (List ℕ)) → IsTokens rest tokens → IsTokens bytes (front ++ tokens)
  pub only : (tokens : List (List ℕ)) → IsTokens bytes tokens → (others : List (List ℕ)) × (tokens ≡ front ++ others) × IsTokens rest others

pub starts : (bytes : List ℕ) → IsCut bytes [] bytes
starts bytes = record { sound = λ tokens given. given; only = λ tokens given. (tokens, refl, given) }

pub past_blank : (bytes : List ℕ) (front : List (List ℕ)) (b : ℕ) (rest : List ℕ) → is_blank b ≡ true → IsCut bytes front (b ∷ rest) → IsCut bytes front rest
past_blank bytes front b rest h cut = record {
  sound = λ tokens given. cut.sound tokens (behind_blank b rest tokens h given);
  only = λ tokens given. let p = cut.only tokens given in (p.0, p.1, at_blank b rest p.0 h p.2);
}

measured_on : (bytes : List ℕ) (front : List (List ℕ)) (b : ℕ) (rest : List ℕ) → is_blank b ≡ false → 0 < token_length (b ∷ rest) → IsCut bytes front (b ∷ rest)
    → IsCut bytes (front ++ take (token_length (b ∷ rest)) (b ∷ rest) ∷ []) (drop (token_length (b ∷ rest)) (b ∷ rest))
measured_on bytes front b rest h some cut =
    let n = token_length (b ∷ rest) in
    let token = take n (b ∷ rest) in
    let more = drop n (b ∷ rest) in
    let found = token_found (b ∷ rest) some in
    let whole : token ++ more ≡ b ∷ rest = take-append-drop n (b ∷ rest) in
    record {
      sound = λ tokens given.
          let here : IsTokens (b ∷ rest) (token ∷ tokens) = subst (λ x. IsTokens x (token ∷ tokens)) whole (behind_token token more tokens found.token given) in
          subst (λ x. IsTokens bytes x) (sym (append_assoc front (token ∷ []) tokens)) (cut.sound (token ∷ tokens) here);
      only = λ tokens given.
          let p = cut.only tokens given in
          let s = at_token b rest p.0 h p.2 in
          (s.others, p.1 ∙ ap (λ (x : List (List ℕ)). front ++ x) s.parts ∙ sym (append_assoc front (token ∷ []) s.others), s.behind);
    }

pub past_token : (bytes : List ℕ) (front : List (List ℕ)) (b : ℕ) (rest : List ℕ) (n : ℕ) → is_blank b ≡ false → n ≡ token_length (b ∷ rest) → 0 < n → IsCut bytes front (b ∷ rest)
    → IsCut bytes (front ++ take n (b ∷ rest) ∷ []) (drop n (b ∷ rest))
past_token bytes front b rest n h e some cut = rw e (measured_on bytes front b rest h (rw e at some) cut)

pub refused : (bytes : List ℕ) (front : List (List ℕ)) (b : ℕ) (rest : List ℕ) → is_blank b ≡ false → 0 ≡ token_length (b ∷ rest) → IsCut bytes front (b ∷ rest) → (tokens : List (List ℕ)) → IsTokens bytes tokens → ⊥
refused bytes front b rest h e cut tokens given =
    let p = cut.only tokens given in
    let s = at_token b rest p.0 h p.2 in
    omega (arith, s.some)

nothing_left : (others : List (List ℕ)) → IsTokens [] others → others ≡ []
nothing_left [] given = refl
nothing_left (t ∷ ts) given =
    let b = begins t given.1 given.3 in
    let size : 0 ≡ length (given.0 ++ (t ++ given.1)) = ap length given.4 in
    let grown : length t ≡ suc (length b.more) = ap length b.is in
    absurd (omega (arith, length-append given.0 (t ++ given.1), length-append t given.1))

pub ends_sound : (bytes : List ℕ) (front : List (List ℕ)) → IsCut bytes front [] → IsTokens bytes front
ends_sound bytes front cut = rw (append-nil front) at (cut.sound [] refl)

pub ends_only : (bytes : List ℕ) (front : List (List ℕ)) → IsCut bytes front [] → (others : List (List ℕ)) → IsTokens bytes others → others ≡ front
ends_only bytes front cut others given =
    let p = cut.only others given in
    p.1 ∙ rw (nothing_left p.0 p.2) (append-nil front)

-- ---- the same, where the rest is known by its first byte

pub blank_step : (bytes : List ℕ) (front : List (List ℕ)) (b : ℕ) (after rest : List ℕ) → rest ≡ b ∷ after → is_blank b ≡ true → IsCut bytes front rest → IsCut bytes front after
blank_step bytes front b after rest e h cut = past_blank bytes front b after h (subst (λ x. IsCut bytes front x) e cut)

pub token_step : (bytes : List ℕ) (front : List (List ℕ)) (b : ℕ) (after rest : List ℕ) (n : ℕ) → rest ≡ b ∷ after → is_blank b ≡ false → n ≡ token_length rest → (n ≡ 0 → ⊥) → IsCut bytes front rest
    → IsCut bytes (front ++ take n rest ∷ []) (drop n rest)
token_step bytes front b after rest n e h measure some cut =
    rw e (past_token bytes front b after n h (measure ∙ ap token_length e) (omega arith) (subst (λ x. IsCut bytes front x) e cut))

pub refuses : (bytes : List ℕ) (front : List (List ℕ)) (b : ℕ) (after rest : List ℕ) (n : ℕ) → rest ≡ b ∷ after → is_blank b ≡ false → n ≡ token_length rest → n ≡ 0 → IsCut bytes front rest
    → (tokens : List (List ℕ)) → IsTokens bytes tokens → ⊥
refuses bytes front b after rest n e h measure none cut = refused bytes front b after h (sym none ∙ measure ∙ ap token_length e) (subst (λ x. IsCut bytes front x) e cut)

pub token_fits : (rest : List ℕ) (n : ℕ) → n ≡ token_length rest → n ≤ length rest
token_fits rest zero measure = omega arith
token_fits rest (suc n) measure = rw measure (token_found rest (omega arith)).within

-- a text has at most one list of tokens
pub one_text : (k : ℕ) (bytes : List ℕ) (ts us : List (List ℕ)) → length bytes ≤ k → IsTokens bytes ts → IsTokens bytes us → ts ≡ us
one_text k [] ts us h a c = nothing_left ts a ∙ sym (nothing_left us c)
one_text zero (b ∷ rest) ts us h a c = absurd (omega arith)
one_text (suc k) (b ∷ rest) ts us h a c =
    elim (cases_Bool (is_blank b)) [
      | inl blank ↦ one_text k rest ts us (omega arith) (at_blank b rest ts blank a) (at_blank b rest us blank c)
      | inr other ↦
          let n = token_length (b ∷ rest) in
          let s = at_token b rest ts other a in
          let t = at_token b rest us other c in
          let some : 0 < n = s.some in
          let shorter : length (drop n (b ∷ rest)) ≤ k = omega (arith, length-drop n (b ∷ rest)) in
          s.parts ∙ ap (λ (x : List (List ℕ)). take n (b ∷ rest) ∷ x) (one_text k (drop n (b ∷ rest)) s.others t.others shorter s.behind t.behind) ∙ sym t.parts
    ]
