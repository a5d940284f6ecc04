-- The words of declarations (docs/LANGUAGE.md, "Grammar"; IEEE Std 1364-2005, clauses 4.2, 4.10 and 12.3).
use Rattle.std.specs.Prelude.{ℕ, List, Option, Some, None, codes, if◌then◌else◌}
use Rattle.std.specs.Str.{bytes_eq}
use Rattle.vf_tree.specs.declared.modules.DirWord.{DirWord}
use Rattle.vf_tree.specs.declared.modules.DirWord.TheVariants as dirs
use Rattle.vf_tree.specs.declared.modules.NetOrReg.{NetOrReg}
use Rattle.vf_tree.specs.declared.modules.NetOrReg.TheVariants as kinds
use Rattle.vf_tree.specs.declared.modules.NetWord.{NetWord}
use Rattle.vf_tree.specs.declared.modules.NetWord.TheVariants as nets
use Rattle.vf_tree.specs.declared.modules.ParamWord.{ParamWord}
use Rattle.vf_tree.specs.declared.modules.ParamWord.TheVariants as params

-- the direction of a word
unfoldable pub dir_of : List ℕ → Option DirWord
dir_of text = if bytes_eq text (codes "input") then Some dirs.Input else if bytes_eq text (codes "output") then Some dirs.Output else None

-- what a port is besides its direction, by a word
unfoldable pub kind_of : List ℕ → Option NetOrReg
kind_of text = if bytes_eq text (codes "wire") then Some kinds.Wire else if bytes_eq text (codes "reg") then Some kinds.Reg else None

-- the kind of nets of a word
unfoldable pub net_of : List ℕ → Option NetWord
net_of text = if bytes_eq text (codes "wire") then Some nets.Wire else if bytes_eq text (codes "tri") then Some nets.Tri else None

-- the kind of parameters of a word
unfoldable pub param_of : List ℕ → Option ParamWord
param_of text = if bytes_eq text (codes "parameter") then Some params.Parameter else if bytes_eq text (codes "localparam") then Some params.Localparam else None
