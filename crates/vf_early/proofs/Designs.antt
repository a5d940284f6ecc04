-- Bytes and their designs.
use Rattle.std.proofs.Common.{◌≡◌, ℕ, List, length, Option, Some, None, refl, ap, sym, ◌∙◌, arith}
use Rattle.vf_design.specs.Program.{Program}
use Rattle.vf_early.specs.Tokens.{IsTokens}
use Rattle.vf_early.specs.Early.{IsEarly}
use Rattle.vf_early.specs.Reading.{Source, source_of}
use Rattle.vf_early.proofs.Sound.{some_is, source_is}
use Rattle.vf_early.proofs.Texts.{one_text}
use Rattle.vf_early.proofs.Complete.{source_again}

-- the program of a text that was read
abbrev pub program_of : Source → ℕ → Program
program_of s slots = record { top = s.top; variable = s.variable; code = s.code; slots = slots }

-- what was read of the text of a program
abbrev pub source_for : Program → Source
source_for p = record { top = p.top; variable = p.variable; code = p.code }

-- what is read of the tokens of an early design
pub read_of : (bytes : List ℕ) (slots : ℕ) (p : Program) (early : IsEarly bytes slots p) (tokens : List (List ℕ)) → early.tokens ≡ tokens → source_of tokens ≡ Some (source_for p)
read_of bytes slots p early tokens same = ap source_of (sym same) ∙ source_again early.tokens p.top p.variable p.code early.source early.most

pub is_early : (bytes : List ℕ) (slots : ℕ) (tokens : List (List ℕ)) (s : Source) → IsTokens bytes tokens → source_of tokens ≡ Some s → IsEarly bytes slots (program_of s slots)
is_early bytes slots tokens s spelled read =
    let source = source_is tokens s read in
    record { tokens = tokens; spelled = spelled; source = source.0; most = source.1; slots_kept = refl }

pub is_only : (bytes : List ℕ) (slots : ℕ) (tokens : List (List ℕ)) (s : Source) → source_of tokens ≡ Some s → (p : Program) (early : IsEarly bytes slots p) → early.tokens ≡ tokens → p ≡ program_of s slots
is_only bytes slots tokens s read p early same =
    let one : source_for p ≡ s = some_is (source_for p) s (sym (read_of bytes slots p early tokens same) ∙ read) in
    ap (λ (n : ℕ). record p { slots = n }) early.slots_kept ∙ ap (λ (x : Source). program_of x slots) one

pub is_none : (bytes : List ℕ) (slots : ℕ) (tokens : List (List ℕ)) → source_of tokens ≡ None → (p : Program) (early : IsEarly bytes slots p) → early.tokens ≡ tokens → ⊥
is_none bytes slots tokens read p early same =
    let both : ◌≡◌ {A = Option Source} None (Some (source_for p)) = sym read ∙ read_of bytes slots p early tokens same in
    absurd cc

pub one_program : (bytes : List ℕ) (slots : ℕ) (p q : Program) → IsEarly bytes slots p → IsEarly bytes slots q → p ≡ q
one_program bytes slots p q a b =
    let same = one_text (length bytes) bytes a.tokens b.tokens (omega arith) a.spelled b.spelled in
    is_only bytes slots b.tokens (source_for q) (read_of bytes slots q b b.tokens refl) p a same
    ∙ ap (λ (n : ℕ). record q { slots = n }) (sym b.slots_kept)
