-- The items of a module and their parts over tokens (docs/LANGUAGE.md, "Grammar"; IEEE Std 1364-2005, clauses 4, 6 and 12, Annex A.1 and A.2):
-- which tree stands at the front of a list of tokens, where the rest follows it. One case for each alternative of the grammar;
-- nothing looks at the rest. The expressions and statements in them have a depth of 200 at most.
use Rattle.std.specs.Prelude.{◌≡◌, ℕ, Bool, true, false, List, [], ◌∷◌, Option, Some, None, codes}
use Rattle.vf_base.specs.declared.names.Place.{Place}
use Rattle.vf_lex.specs.declared.token.Token.{Token}
use Rattle.vf_tree.specs.declared.words.Name.{Name}
use Rattle.vf_tree.specs.declared.expressions.TreeExpr.{TreeExpr}
use Rattle.vf_tree.specs.declared.statements.Stmt.{Stmt}
use Rattle.vf_tree.specs.declared.modules.Range.{Range}
use Rattle.vf_tree.specs.declared.modules.DirWord.{DirWord}
use Rattle.vf_tree.specs.declared.modules.Dir.{Dir}
use Rattle.vf_tree.specs.declared.modules.NetOrReg.{NetOrReg}
use Rattle.vf_tree.specs.declared.modules.NetWord.{NetWord}
use Rattle.vf_tree.specs.declared.modules.ParamWord.{ParamWord}
use Rattle.vf_tree.specs.declared.modules.Pparam.{Pparam}
use Rattle.vf_tree.specs.declared.modules.Hport.{Hport}
use Rattle.vf_tree.specs.declared.modules.Aport.{Aport}
use Rattle.vf_tree.specs.declared.modules.AportForm.TheVariants as aport
use Rattle.vf_tree.specs.declared.modules.Ports.{Ports}
use Rattle.vf_tree.specs.declared.modules.PortsForm.TheVariants as ports
use Rattle.vf_tree.specs.declared.modules.Net.{Net}
use Rattle.vf_tree.specs.declared.modules.Var.{Var}
use Rattle.vf_tree.specs.declared.modules.VarForm.TheVariants as var
use Rattle.vf_tree.specs.declared.modules.VarType.TheVariants as type_of
use Rattle.vf_tree.specs.declared.modules.ParamPart.{ParamPart}
use Rattle.vf_tree.specs.declared.modules.AssignPart.{AssignPart}
use Rattle.vf_tree.specs.declared.modules.NamedConn.{NamedConn}
use Rattle.vf_tree.specs.declared.modules.Conns.{Conns}
use Rattle.vf_tree.specs.declared.modules.ConnsForm.TheVariants as conns
use Rattle.vf_tree.specs.declared.modules.Inst.{Inst}
use Rattle.vf_tree.specs.declared.modules.Item.{Item}
use Rattle.vf_tree.specs.declared.modules.ItemForm.{ItemForm}
use Rattle.vf_tree.specs.declared.modules.ItemForm.TheVariants as form
use Rattle.vf_expression.specs.Grammar.{Tokens, sign, word, name, IsExpr}
use Rattle.vf_statement.specs.Grammar.{IsAssignPart, IsStmt}
use Rattle.vf_item.specs.declared.shapes.Shape.{Shape}
use Rattle.vf_item.specs.declared.shapes.PortShape.{PortShape}
use Rattle.vf_item.specs.Rows.{IsRow, IsAfterComma, IsSeries}
use Rattle.vf_item.specs.Words.{dir_of, kind_of, net_of, param_of}

-- ---- parts

-- an expression
pub data IsValue (ts rest : Tokens) (e : TreeExpr) : Type 0 where
  value : (n : ℕ) → IsExpr 200 1 n ts rest e → IsValue ts rest e

-- Name
pub data IsName (ts rest : Tokens) (tree : Name) : Type 0 where
  named : (p : Place) (text : List ℕ) → ts ≡ name p text ∷ rest → tree ≡ record { text = text; place = p } → IsName ts rest tree

-- range = "[" expr ":" expr "]"
pub data IsRange (ts rest : Tokens) (tree : Range) : Type 0 where
  range : (p q r : Place) (us vs : Tokens) (a b : TreeExpr) → IsValue us (sign q (codes ":") ∷ vs) a → IsValue vs (sign r (codes "]") ∷ rest) b → ts ≡ sign p (codes "[") ∷ us
      → tree ≡ record { place = p; left = a; right = b } → IsRange ts rest tree

-- [ range ]
pub data IsRangeOr (ts rest : Tokens) (tree : Option Range) : Type 0 where
  scalar : ts ≡ rest → tree ≡ None → IsRangeOr ts rest tree
  vector : (r : Range) → IsRange ts rest r → tree ≡ Some r → IsRangeOr ts rest tree

-- [ "signed" ] [ range ]
pub data IsShape (ts rest : Tokens) (shape : Shape) : Type 0 where
  unsigned : (r : Option Range) → IsRangeOr ts rest r → shape ≡ record { signed = false; range = r } → IsShape ts rest shape
  signed : (p : Place) (us : Tokens) (r : Option Range) → IsRangeOr us rest r → ts ≡ word p (codes "signed") ∷ us → shape ≡ record { signed = true; range = r } → IsShape ts rest shape

-- dir [ "wire" | "reg" ] [ "signed" ] [ range ]
pub data IsPortShape (ts rest : Tokens) (port : PortShape) : Type 0 where
  untyped : (p : Place) (text : List ℕ) (d : DirWord) (us : Tokens) (s : Shape) → IsShape us rest s → dir_of text ≡ Some d → ts ≡ word p text ∷ us
      → port ≡ record { dir = record { place = p; word = d }; kind = None; shape = s } → IsPortShape ts rest port
  typed : (p q : Place) (text spelled : List ℕ) (d : DirWord) (k : NetOrReg) (us : Tokens) (s : Shape) → IsShape us rest s → dir_of text ≡ Some d → kind_of spelled ≡ Some k → ts ≡ word p text ∷ word q spelled ∷ us
      → port ≡ record { dir = record { place = p; word = d }; kind = Some k; shape = s } → IsPortShape ts rest port

-- ---- headers of modules

-- pparam = [ "parameter" ] [ "signed" ] [ range ] Name "=" expr
pub data IsPparam (ts rest : Tokens) (tree : Pparam) : Type 0 where
  marked : (p q r : Place) (text : List ℕ) (us vs : Tokens) (s : Shape) (e : TreeExpr) → IsShape us (name q text ∷ sign r (codes "=") ∷ vs) s → IsValue vs rest e → ts ≡ word p (codes "parameter") ∷ us
      → tree ≡ record { place = p; parameter = true; signed = s.signed; range = s.range; name = record { text = text; place = q }; value = e } → IsPparam ts rest tree
  unmarked : (t : Token) (q r : Place) (text : List ℕ) (us vs : Tokens) (s : Shape) (e : TreeExpr) → IsShape ts (name q text ∷ sign r (codes "=") ∷ vs) s → IsValue vs rest e → ts ≡ t ∷ us
      → tree ≡ record { place = t.place; parameter = false; signed = s.signed; range = s.range; name = record { text = text; place = q }; value = e } → IsPparam ts rest tree

-- hport = dir [ "wire" | "reg" ] [ "signed" ] [ range ] Name
pub data IsHport (ts rest : Tokens) (tree : Hport) : Type 0 where
  port : (q : Place) (text : List ℕ) (s : PortShape) → IsPortShape ts (name q text ∷ rest) s
      → tree ≡ record { place = s.dir.place; dir = s.dir; word = s.kind; signed = s.shape.signed; range = s.shape.range; name = record { text = text; place = q } } → IsHport ts rest tree

-- aport = hport | Name
pub data IsAport (ts rest : Tokens) (tree : Aport) : Type 0 where
  declared : (h : Hport) → IsHport ts rest h → tree ≡ record { place = h.place; form = aport.Declared h } → IsAport ts rest tree
  repeated : (n : Name) → IsName ts rest n → tree ≡ record { place = n.place; form = aport.Name n } → IsAport ts rest tree

-- ports = Name { "," Name } | hport { "," aport }
pub data IsPorts (ts rest : Tokens) (tree : Ports) : Type 0 where
  names : (t : Token) (us : Tokens) (ns : List Name) → IsSeries IsName ts rest ns → ts ≡ t ∷ us → tree ≡ record { place = t.place; form = ports.Names ns } → IsPorts ts rest tree
  declarations : (us : Tokens) (h : Hport) (others : List Aport) → IsHport ts us h → IsRow (IsAfterComma IsAport) us rest others → tree ≡ record { place = h.place; form = ports.Declared h others } → IsPorts ts rest tree

-- [ "(" [ ports ] ")" ]
pub data IsPortList (ts rest : Tokens) (tree : Option (Option Ports)) : Type 0 where
  no_list : ts ≡ rest → tree ≡ None → IsPortList ts rest tree
  empty_list : (p q : Place) → ts ≡ sign p (codes "(") ∷ sign q (codes ")") ∷ rest → tree ≡ Some None → IsPortList ts rest tree
  port_list : (p q : Place) (us : Tokens) (l : Ports) → IsPorts us (sign q (codes ")") ∷ rest) l → ts ≡ sign p (codes "(") ∷ us → tree ≡ Some (Some l) → IsPortList ts rest tree

-- [ "#" "(" pparam { "," pparam } ")" ]
pub data IsParams (ts rest : Tokens) (tree : Option (List Pparam)) : Type 0 where
  no_params : ts ≡ rest → tree ≡ None → IsParams ts rest tree
  param_list : (p q r : Place) (us : Tokens) (l : List Pparam) → IsSeries IsPparam us (sign r (codes ")") ∷ rest) l → ts ≡ sign p (codes "#") ∷ sign q (codes "(") ∷ us → tree ≡ Some l → IsParams ts rest tree

-- ---- parts of items

-- net = Name [ "=" expr ]
pub data IsNet (ts rest : Tokens) (tree : Net) : Type 0 where
  undriven : (p : Place) (text : List ℕ) → ts ≡ name p text ∷ rest → tree ≡ record { place = p; name = record { text = text; place = p }; value = None } → IsNet ts rest tree
  driven : (p q : Place) (text : List ℕ) (us : Tokens) (e : TreeExpr) → IsValue us rest e → ts ≡ name p text ∷ sign q (codes "=") ∷ us
      → tree ≡ record { place = p; name = record { text = text; place = p }; value = Some e } → IsNet ts rest tree

-- var = Name [ range ] | Name "=" expr
pub data IsVar (ts rest : Tokens) (tree : Var) : Type 0 where
  plain : (p : Place) (text : List ℕ) (us : Tokens) (r : Option Range) → IsRangeOr us rest r → ts ≡ name p text ∷ us → tree ≡ record { place = p; form = var.Plain (record { text = text; place = p }) r } → IsVar ts rest tree
  set : (p q : Place) (text : List ℕ) (us : Tokens) (e : TreeExpr) → IsValue us rest e → ts ≡ name p text ∷ sign q (codes "=") ∷ us → tree ≡ record { place = p; form = var.Set (record { text = text; place = p }) e } → IsVar ts rest tree

-- Name "=" expr
pub data IsParamPart (ts rest : Tokens) (tree : ParamPart) : Type 0 where
  param_part : (p q : Place) (text : List ℕ) (us : Tokens) (e : TreeExpr) → IsValue us rest e → ts ≡ name p text ∷ sign q (codes "=") ∷ us
      → tree ≡ record { name = record { text = text; place = p }; value = e } → IsParamPart ts rest tree

-- target "=" expr
pub data IsAssign (ts rest : Tokens) (tree : AssignPart) : Type 0 where
  assign : (n : ℕ) → IsAssignPart 200 n ts rest tree → IsAssign ts rest tree

-- [ expr ]
pub data IsSlot (ts rest : Tokens) (tree : Option TreeExpr) : Type 0 where
  empty : ts ≡ rest → tree ≡ None → IsSlot ts rest tree
  filled : (e : TreeExpr) → IsValue ts rest e → tree ≡ Some e → IsSlot ts rest tree

-- "." Name "(" [ expr ] ")"
pub data IsNamedConn (ts rest : Tokens) (tree : NamedConn) : Type 0 where
  conn : (p q r s : Place) (text : List ℕ) (us : Tokens) (v : Option TreeExpr) → IsSlot us (sign s (codes ")") ∷ rest) v → ts ≡ sign p (codes ".") ∷ name q text ∷ sign r (codes "(") ∷ us
      → tree ≡ record { name = record { text = text; place = q }; value = v } → IsNamedConn ts rest tree

-- conns = expr | [ expr ] "," [ expr ] { "," [ expr ] } | "." Name "(" [ expr ] ")" { "," "." Name "(" [ expr ] ")" }
pub data IsConns (ts rest : Tokens) (tree : Conns) : Type 0 where
  lone : (t : Token) (us : Tokens) (e : TreeExpr) → IsValue ts rest e → ts ≡ t ∷ us → tree ≡ record { place = t.place; form = conns.One e } → IsConns ts rest tree
  places : (t : Token) (us vs ws : Tokens) (a b : Option TreeExpr) (others : List (Option TreeExpr)) → IsSlot ts vs a → IsAfterComma IsSlot vs ws b → IsRow (IsAfterComma IsSlot) ws rest others → ts ≡ t ∷ us
      → tree ≡ record { place = t.place; form = conns.Places (a ∷ b ∷ others) } → IsConns ts rest tree
  by_name : (t : Token) (us : Tokens) (ns : List NamedConn) → IsSeries IsNamedConn ts rest ns → ts ≡ t ∷ us → tree ≡ record { place = t.place; form = conns.Names ns } → IsConns ts rest tree

-- [ "#" "(" conns ")" ]
pub data IsOverrides (ts rest : Tokens) (tree : Option Conns) : Type 0 where
  no_overrides : ts ≡ rest → tree ≡ None → IsOverrides ts rest tree
  overrides : (p q r : Place) (us : Tokens) (c : Conns) → IsConns us (sign r (codes ")") ∷ rest) c → ts ≡ sign p (codes "#") ∷ sign q (codes "(") ∷ us → tree ≡ Some c → IsOverrides ts rest tree

-- inst = Name "(" [ conns ] ")"
pub data IsInst (ts rest : Tokens) (tree : Inst) : Type 0 where
  unconnected : (p q r : Place) (text : List ℕ) → ts ≡ name p text ∷ sign q (codes "(") ∷ sign r (codes ")") ∷ rest → tree ≡ record { place = p; name = record { text = text; place = p }; conns = None } → IsInst ts rest tree
  connected : (p q r : Place) (text : List ℕ) (us : Tokens) (c : Conns) → IsConns us (sign r (codes ")") ∷ rest) c → ts ≡ name p text ∷ sign q (codes "(") ∷ us
      → tree ≡ record { place = p; name = record { text = text; place = p }; conns = Some c } → IsInst ts rest tree

-- ---- items

abbrev pub item : Place → ItemForm → Item
item p f = record { place = p; form = f }

pub data IsItem (ts rest : Tokens) (tree : Item) : Type 0 where
  -- dir [ "wire" | "reg" ] [ "signed" ] [ range ] Name { "," Name } ";"
  port_names : (q : Place) (us : Tokens) (s : PortShape) (ns : List Name) → IsPortShape ts us s → IsSeries IsName us (sign q (codes ";") ∷ rest) ns
      → tree ≡ item s.dir.place (form.Ports s.dir s.kind s.shape.signed s.shape.range ns) → IsItem ts rest tree
  -- ( "wire" | "tri" ) [ "signed" ] [ range ] net { "," net } ";"
  nets : (p q : Place) (text : List ℕ) (w : NetWord) (us vs : Tokens) (s : Shape) (ns : List Net) → IsShape us vs s → IsSeries IsNet vs (sign q (codes ";") ∷ rest) ns → net_of text ≡ Some w → ts ≡ word p text ∷ us
      → tree ≡ item p (form.Nets w s.signed s.range ns) → IsItem ts rest tree
  -- "reg" [ "signed" ] [ range ] var { "," var } ";"
  regs : (p q : Place) (us vs : Tokens) (s : Shape) (ns : List Var) → IsShape us vs s → IsSeries IsVar vs (sign q (codes ";") ∷ rest) ns → ts ≡ word p (codes "reg") ∷ us
      → tree ≡ item p (form.Vars (type_of.Reg s.signed s.range) ns) → IsItem ts rest tree
  -- "integer" var { "," var } ";"
  integers : (p q : Place) (us : Tokens) (ns : List Var) → IsSeries IsVar us (sign q (codes ";") ∷ rest) ns → ts ≡ word p (codes "integer") ∷ us → tree ≡ item p (form.Vars type_of.Integer ns) → IsItem ts rest tree
  -- "time" var { "," var } ";"
  times : (p q : Place) (us : Tokens) (ns : List Var) → IsSeries IsVar us (sign q (codes ";") ∷ rest) ns → ts ≡ word p (codes "time") ∷ us → tree ≡ item p (form.Vars type_of.Time ns) → IsItem ts rest tree
  -- ( "parameter" | "localparam" ) [ "signed" ] [ range ] Name "=" expr { "," Name "=" expr } ";"
  params : (p q : Place) (text : List ℕ) (w : ParamWord) (us vs : Tokens) (s : Shape) (ps : List ParamPart) → IsShape us vs s → IsSeries IsParamPart vs (sign q (codes ";") ∷ rest) ps → param_of text ≡ Some w → ts ≡ word p text ∷ us
      → tree ≡ item p (form.Params w s.signed s.range ps) → IsItem ts rest tree
  -- "assign" target "=" expr { "," target "=" expr } ";"
  assigns : (p q : Place) (us : Tokens) (parts : List AssignPart) → IsSeries IsAssign us (sign q (codes ";") ∷ rest) parts → ts ≡ word p (codes "assign") ∷ us → tree ≡ item p (form.Assign parts) → IsItem ts rest tree
  -- Name [ "#" "(" conns ")" ] inst { "," inst } ";"
  insts : (p q : Place) (text : List ℕ) (us vs : Tokens) (o : Option Conns) (is : List Inst) → IsOverrides us vs o → IsSeries IsInst vs (sign q (codes ";") ∷ rest) is → ts ≡ name p text ∷ us
      → tree ≡ item p (form.Insts (record { text = text; place = p }) o is) → IsItem ts rest tree
  -- "initial" stmt
  initial : (o : Bool) (n : ℕ) (p : Place) (us : Tokens) (s : Stmt) → IsStmt 200 o n us rest s → ts ≡ word p (codes "initial") ∷ us → tree ≡ item p (form.Initial s) → IsItem ts rest tree
  -- "always" stmt
  always : (o : Bool) (n : ℕ) (p : Place) (us : Tokens) (s : Stmt) → IsStmt 200 o n us rest s → ts ≡ word p (codes "always") ∷ us → tree ≡ item p (form.Always s) → IsItem ts rest tree
