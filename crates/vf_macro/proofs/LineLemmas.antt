-- The rest of a line.
use Rattle.std.proofs.Common.{◌≡◌, ℕ, true, List, ◌++◌}
use Rattle.std.specs.List.{list_all}
use Rattle.vf_number.specs.Runs.{run}
use Rattle.vf_number.proofs.CallerLemmas.{run_parts, run_all, after_run_ends, after_run_of}
use Rattle.vf_lexeme.specs.Bytes.{is_no_newline, after_line, Ends}

-- the bytes up to the end of the line, and from there on
pub record IsLine (bytes : List ℕ) : Type 0 where
  pub inside : List ℕ
  pub in_line : list_all is_no_newline inside ≡ true
  pub ends : Ends is_no_newline (after_line bytes)
  pub parts : bytes ≡ inside ++ after_line bytes

pub line_of : (bytes : List ℕ) → IsLine bytes
line_of bytes = record {
  inside = run is_no_newline bytes;
  in_line = run_all is_no_newline bytes;
  ends = after_run_ends is_no_newline bytes;
  parts = run_parts is_no_newline bytes;
}

pub after_line_of : (inside rest : List ℕ) → list_all is_no_newline inside ≡ true → Ends is_no_newline rest
    → after_line (inside ++ rest) ≡ rest
after_line_of inside rest h ends = after_run_of is_no_newline inside rest h ends
