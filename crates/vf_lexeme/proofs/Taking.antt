-- What stands at the front of a text takes a byte or more of it, and leaves what is after.
use Rattle.std.proofs.Common.{◌≡◌, ℕ, List, [], ◌∷◌, ◌++◌, Ok, ap, ◌∙◌, arith}
use Rattle.vf_number.proofs.CallerLemmas.{Takes, after_first, after_two, number_takes}
use Rattle.vf_lexeme.specs.Strings.{IsQuoted}
use Rattle.vf_lexeme.specs.Signs.{IsSkipped, line, block, attribute, IsSignAt}
use Rattle.vf_lexeme.specs.Words.{IsName}
use Rattle.vf_lexeme.specs.Lexemes.{Seen, Begins, blank, skipped, open_comment, name, word, escaped, system, number, bad_number, quoted, open_string, sign, directive, dollar, stray, SeenPassing, Passes, pass_directive, pass_skipped, pass_open_comment, pass_quoted, pass_open_string, pass_escaped, pass_other}
use Rattle.vf_lexeme.specs.Laws.{IsRest}
use Rattle.vf_lexeme.proofs.Signing.{no_sign}

pub skipped_takes : (text rest : List ℕ) → IsSkipped text rest → IsRest text rest
skipped_takes text rest (line inside all ends e) = after_first text rest 47 (47 ∷ inside) e
skipped_takes text rest (block inside lacks e) = after_two text rest 47 (42 ∷ inside) (42 ∷ 47 ∷ []) e
skipped_takes text rest (attribute inside lacks ends e) = after_two text rest 40 (42 ∷ inside) (42 ∷ 41 ∷ []) e

pub quoted_takes : (text after value rest : List ℕ) → IsQuoted after value rest → text ≡ 34 ∷ after → IsRest text rest
quoted_takes text after value rest q e = after_two text rest 34 q.inside (34 ∷ []) (e ∙ ap (λ (t : List ℕ). 34 ∷ t) q.closed)

name_takes : (text n rest : List ℕ) → IsName n → text ≡ n ++ rest → IsRest text rest
name_takes text [] rest is e = absurd is
name_takes text (b ∷ n) rest is e = (b ∷ n, e, omega arith)

sign_takes : (text front rest : List ℕ) → IsSignAt text front rest → IsRest text rest
sign_takes text [] rest s = absurd (no_sign s.listed)
sign_takes text (b ∷ front) rest s = (b ∷ front, s.parts, omega arith)

pub begins_takes : (text : List ℕ) (seen : Seen) → Begins text seen → Takes text seen
begins_takes text seen (blank b rest h e s) = rw s (after_first text rest b [] e)
begins_takes text seen (skipped rest is s) = rw s (skipped_takes text rest is)
begins_takes text seen (open_comment is s) = rw s tt
begins_takes text seen (name n rest is r ends e s) = rw s (name_takes text n rest is e)
begins_takes text seen (word n rest is r ends e s) = rw s (name_takes text n rest is e)
begins_takes text seen (escaped n rest all ends e s) = rw s (after_first text rest 92 n e)
begins_takes text seen (system first more rest h all ends e s) = rw s (after_first text rest 36 (first ∷ more) e)
begins_takes text seen (number v rest is s) = rw s (number_takes text (Ok (v, rest)) is)
begins_takes text seen (bad_number fault is s) = rw s tt
begins_takes text seen (quoted after value rest q e s) = rw s (quoted_takes text after value rest q e)
begins_takes text seen (open_string after h e s) = rw s tt
begins_takes text seen (sign front rest is s) = rw s (sign_takes text front rest is)
begins_takes text seen (directive rest e s) = rw s (after_first text rest 96 [] e)
begins_takes text seen (dollar rest ends e s) = rw s tt
begins_takes text seen (stray b rest h e s) = rw s tt

pub passes_takes : (text : List ℕ) (seen : SeenPassing) → Passes text seen → Takes text seen
passes_takes text seen (pass_directive rest e s) = rw s (after_first text rest 96 [] e)
passes_takes text seen (pass_skipped rest is s) = rw s (skipped_takes text rest is)
passes_takes text seen (pass_open_comment is s) = rw s tt
passes_takes text seen (pass_quoted after value rest q e s) = rw s (quoted_takes text after value rest q e)
passes_takes text seen (pass_open_string after h e s) = rw s tt
passes_takes text seen (pass_escaped n rest all ends e s) = rw s (after_first text rest 92 n e)
passes_takes text seen (pass_other b rest x y z h e s) = rw s (after_first text rest b [] e)
