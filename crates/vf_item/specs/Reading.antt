-- What the readers do, as functions on lists of tokens. The grammar does not rest on them: the proofs show that they read
-- exactly what it says.
use Rattle.std.specs.Prelude.{◌≡◌, ℕ, Bool, true, false, List, [], ◌∷◌, length, Option, Some, None, codes, if◌then◌else◌}
use Rattle.std.specs.Str.{bytes_eq}
use Rattle.vf_base.specs.declared.names.Place.{Place}
use Rattle.vf_lexeme.specs.declared.kinds.TokenKind.{TokenKind}
use Rattle.vf_lexeme.specs.declared.kinds.TokenKind.TheVariants as token
use Rattle.vf_tree.specs.declared.words.Name.{Name}
use Rattle.vf_tree.specs.declared.expressions.TreeExpr.{TreeExpr}
use Rattle.vf_tree.specs.declared.statements.Stmt.{Stmt}
use Rattle.vf_tree.specs.declared.modules.Range.{Range}
use Rattle.vf_tree.specs.declared.modules.DirWord.{DirWord}
use Rattle.vf_tree.specs.declared.modules.Dir.{Dir}
use Rattle.vf_tree.specs.declared.modules.NetOrReg.{NetOrReg}
use Rattle.vf_tree.specs.declared.modules.NetWord.{NetWord}
use Rattle.vf_tree.specs.declared.modules.ParamWord.{ParamWord}
use Rattle.vf_tree.specs.declared.modules.Pparam.{Pparam}
use Rattle.vf_tree.specs.declared.modules.Hport.{Hport}
use Rattle.vf_tree.specs.declared.modules.Aport.{Aport}
use Rattle.vf_tree.specs.declared.modules.AportForm.TheVariants as aport
use Rattle.vf_tree.specs.declared.modules.Ports.{Ports}
use Rattle.vf_tree.specs.declared.modules.PortsForm.TheVariants as ports
use Rattle.vf_tree.specs.declared.modules.Net.{Net}
use Rattle.vf_tree.specs.declared.modules.Var.{Var}
use Rattle.vf_tree.specs.declared.modules.VarForm.TheVariants as var
use Rattle.vf_tree.specs.declared.modules.VarType.{VarType}
use Rattle.vf_tree.specs.declared.modules.VarType.TheVariants as type_of
use Rattle.vf_tree.specs.declared.modules.ParamPart.{ParamPart}
use Rattle.vf_tree.specs.declared.modules.AssignPart.{AssignPart}
use Rattle.vf_tree.specs.declared.modules.NamedConn.{NamedConn}
use Rattle.vf_tree.specs.declared.modules.Conns.{Conns}
use Rattle.vf_tree.specs.declared.modules.ConnsForm.TheVariants as conns
use Rattle.vf_tree.specs.declared.modules.Inst.{Inst}
use Rattle.vf_tree.specs.declared.modules.Item.{Item}
use Rattle.vf_tree.specs.declared.modules.ItemForm.TheVariants as form
use Rattle.vf_expression.specs.Grammar.{Tokens}
use Rattle.vf_expression.specs.Reading.{◌>>=◌, found_or, is_sign, after, opening_at, expr_at}
use Rattle.vf_statement.specs.Reading.{is_word, after_word, name_at, assign_part_at, stmt_at}
use Rattle.vf_item.specs.declared.shapes.Shape.{Shape}
use Rattle.vf_item.specs.declared.shapes.PortShape.{PortShape}
use Rattle.vf_item.specs.Rows.{Piece, Found, more_at, series_at}
use Rattle.vf_item.specs.Words.{dir_of, kind_of, net_of, param_of}
use Rattle.vf_item.specs.Grammar.{item, IsParams, IsPortList, IsItem}

-- ---- tokens

-- the text of a reserved word
abbrev pub word_text : TokenKind → Option (List ℕ)
word_text (token.Word text) = Some text
word_text (token.Name text) = None
word_text (token.System text) = None
word_text (token.Sign text) = None
word_text (token.Number value) = None
word_text (token.Quoted text) = None

-- whether a token is a name
abbrev pub is_name : TokenKind → Bool
is_name (token.Name text) = true
is_name (token.System text) = false
is_name (token.Word text) = false
is_name (token.Sign text) = false
is_name (token.Number value) = false
is_name (token.Quoted text) = false

-- ---- parts

unfoldable pub value_at : Tokens → Found TreeExpr
value_at ts = do
  x ← expr_at 200 1 ts
  Some (x.0, x.2)

-- "=" and an expression
unfoldable pub init_at : Tokens → Found TreeExpr
init_at ts = do
  us ← after (codes "=") ts
  value_at us

-- a range after its `[`
unfoldable pub range_from : Place → Tokens → Found Range
range_from p ts = do
  a ← value_at ts
  us ← after (codes ":") a.1
  b ← value_at us
  rest ← after (codes "]") b.1
  Some (record { place = p; left = a.0; right = b.0 }, rest)

unfoldable pub vector_from : Place → Tokens → Found (Option Range)
vector_from p ts = do
  r ← range_from p ts
  Some (Some r.0, r.1)

-- a range, where one stands in front
unfoldable pub range_or : Tokens → Found (Option Range)
range_or ts = found_or (opening_at ts) (λ o. vector_from o.0 o.1) (Some (None, ts))

unfoldable pub shape_from : Bool → Tokens → Found Shape
shape_from signed ts = do
  r ← range_or ts
  Some (record { signed = signed; range = r.0 }, r.1)

unfoldable pub shape_at : Tokens → Found Shape
shape_at ts = found_or (after_word (codes "signed") ts) (λ us. shape_from true us) (shape_from false ts)

-- the direction at the front, and the tokens after it
unfoldable pub dir_at : Tokens → Found Dir
dir_at [] = None
dir_at (t ∷ rest) = do
  text ← word_text t.kind
  d ← dir_of text
  Some (record { place = t.place; word = d }, rest)

-- `wire` or `reg` at the front, and the tokens after it
unfoldable pub kind_at : Tokens → Found NetOrReg
kind_at [] = None
kind_at (t ∷ rest) = do
  text ← word_text t.kind
  k ← kind_of text
  Some (k, rest)

unfoldable pub port_shape_by : Dir → Option NetOrReg → Tokens → Found PortShape
port_shape_by d k ts = do
  s ← shape_at ts
  Some (record { dir = d; kind = k; shape = s.0 }, s.1)

-- what a port is, after its direction
unfoldable pub port_shape_from : Dir → Tokens → Found PortShape
port_shape_from d ts = found_or (kind_at ts) (λ k. port_shape_by d (Some k.0) k.1) (port_shape_by d None ts)

unfoldable pub port_shape_at : Tokens → Found PortShape
port_shape_at ts = do
  d ← dir_at ts
  port_shape_from d.0 d.1

-- ---- headers of modules

-- a parameter that begins at the place, with `parameter` or without, from its shape on
unfoldable pub pparam_from : Place → Bool → Tokens → Found Pparam
pparam_from p marked ts = do
  s ← shape_at ts
  n ← name_at s.1
  v ← init_at n.1
  Some (record { place = p; parameter = marked; signed = s.0.signed; range = s.0.range; name = n.0; value = v.0 }, v.1)

unfoldable pub pparam_at : Tokens → Found Pparam
pparam_at [] = None
pparam_at (t ∷ rest) = if is_word (codes "parameter") t.kind then pparam_from t.place true rest else pparam_from t.place false (t ∷ rest)

unfoldable pub hport_at : Tokens → Found Hport
hport_at ts = do
  s ← port_shape_at ts
  n ← name_at s.1
  Some (record { place = s.0.dir.place; dir = s.0.dir; word = s.0.kind; signed = s.0.shape.signed; range = s.0.shape.range; name = n.0 }, n.1)

unfoldable pub declared_at : Tokens → Found Aport
declared_at ts = do
  h ← hport_at ts
  Some (record { place = h.0.place; form = aport.Declared h.0 }, h.1)

unfoldable pub bare_at : Tokens → Found Aport
bare_at ts = do
  n ← name_at ts
  Some (record { place = n.0.place; form = aport.Name n.0 }, n.1)

unfoldable pub aport_at : Tokens → Found Aport
aport_at [] = None
aport_at (t ∷ rest) = if is_name t.kind then bare_at (t ∷ rest) else declared_at (t ∷ rest)

unfoldable pub names_at : Place → Tokens → Found Ports
names_at p ts = do
  l ← series_at name_at ts
  Some (record { place = p; form = ports.Names l.0 }, l.1)

unfoldable pub declarations_at : Tokens → Found Ports
declarations_at ts = do
  h ← hport_at ts
  l ← more_at aport_at [] h.1
  Some (record { place = h.0.place; form = ports.Declared h.0 l.0 }, l.1)

unfoldable pub ports_at : Tokens → Found Ports
ports_at [] = None
ports_at (t ∷ rest) = if is_name t.kind then names_at t.place (t ∷ rest) else declarations_at (t ∷ rest)

-- [ "(" [ ports ] ")" ]
unfoldable pub some_ports : Tokens → Found (Option (Option Ports))
some_ports ts = do
  l ← ports_at ts
  rest ← after (codes ")") l.1
  Some (Some (Some l.0), rest)

unfoldable pub port_list_from : Tokens → Found (Option (Option Ports))
port_list_from ts = found_or (after (codes ")") ts) (λ rest. Some (Some None, rest)) (some_ports ts)

unfoldable pub port_list_at : Tokens → Found (Option (Option Ports))
port_list_at ts = found_or (after (codes "(") ts) (λ us. port_list_from us) (Some (None, ts))

-- [ "#" "(" pparam { "," pparam } ")" ]
unfoldable pub params_from : Tokens → Found (Option (List Pparam))
params_from ts = do
  us ← after (codes "(") ts
  l ← series_at pparam_at us
  rest ← after (codes ")") l.1
  Some (Some l.0, rest)

unfoldable pub params_at : Tokens → Found (Option (List Pparam))
params_at ts = found_or (after (codes "#") ts) (λ us. params_from us) (Some (None, ts))

-- ---- parts of items

-- a net after its name and `=`
unfoldable pub driven_from : Name → Tokens → Found Net
driven_from n ts = do
  v ← value_at ts
  Some (record { place = n.place; name = n; value = Some v.0 }, v.1)

unfoldable pub net_from : Name → Tokens → Found Net
net_from n ts = found_or (after (codes "=") ts) (λ us. driven_from n us) (Some (record { place = n.place; name = n; value = None }, ts))

unfoldable pub net_at : Tokens → Found Net
net_at ts = do
  n ← name_at ts
  net_from n.0 n.1

-- a variable after its name and `=`
unfoldable pub set_from : Name → Tokens → Found Var
set_from n ts = do
  v ← value_at ts
  Some (record { place = n.place; form = var.Set n v.0 }, v.1)

unfoldable pub plain_from : Name → Tokens → Found Var
plain_from n ts = do
  r ← range_or ts
  Some (record { place = n.place; form = var.Plain n r.0 }, r.1)

unfoldable pub var_from : Name → Tokens → Found Var
var_from n ts = found_or (after (codes "=") ts) (λ us. set_from n us) (plain_from n ts)

unfoldable pub var_at : Tokens → Found Var
var_at ts = do
  n ← name_at ts
  var_from n.0 n.1

unfoldable pub param_part_at : Tokens → Found ParamPart
param_part_at ts = do
  n ← name_at ts
  v ← init_at n.1
  Some (record { name = n.0; value = v.0 }, v.1)

unfoldable pub assign_at : Tokens → Found AssignPart
assign_at ts = do
  x ← assign_part_at 200 ts
  Some (x.0, x.2)

-- whether a connection by place is left empty: its comma or parenthesis stands in front
abbrev pub ends_slot : TokenKind → Bool
ends_slot (token.Sign text) = if bytes_eq text (codes ",") then true else bytes_eq text (codes ")")
ends_slot (token.Name text) = false
ends_slot (token.System text) = false
ends_slot (token.Word text) = false
ends_slot (token.Number value) = false
ends_slot (token.Quoted text) = false

unfoldable pub filled_at : Tokens → Found (Option TreeExpr)
filled_at ts = do
  v ← value_at ts
  Some (Some v.0, v.1)

unfoldable pub slot_at : Tokens → Found (Option TreeExpr)
slot_at [] = None
slot_at (t ∷ rest) = if ends_slot t.kind then Some (None, t ∷ rest) else filled_at (t ∷ rest)

unfoldable pub named_conn_at : Tokens → Found NamedConn
named_conn_at ts = do
  us ← after (codes ".") ts
  n ← name_at us
  vs ← after (codes "(") n.1
  s ← slot_at vs
  rest ← after (codes ")") s.1
  Some (record { name = n.0; value = s.0 }, rest)

unfoldable pub by_name_at : Place → Tokens → Found Conns
by_name_at p ts = do
  l ← series_at named_conn_at ts
  Some (record { place = p; form = conns.Names l.0 }, l.1)

-- one connection by place, that is not left empty
abbrev pub lone_from : Place → Option TreeExpr → Tokens → Found Conns
lone_from p (Some e) ts = Some (record { place = p; form = conns.One e }, ts)
lone_from p None ts = None

-- connections by place after the first one and its comma
unfoldable pub places_from : Place → Option TreeExpr → Tokens → Found Conns
places_from p first ts = do
  b ← slot_at ts
  l ← more_at slot_at (first ∷ b.0 ∷ []) b.1
  Some (record { place = p; form = conns.Places l.0 }, l.1)

unfoldable pub by_place_from : Place → Option TreeExpr → Tokens → Found Conns
by_place_from p first ts = found_or (after (codes ",") ts) (λ us. places_from p first us) (lone_from p first ts)

unfoldable pub by_place_at : Place → Tokens → Found Conns
by_place_at p ts = do
  s ← slot_at ts
  by_place_from p s.0 s.1

unfoldable pub conns_at : Tokens → Found Conns
conns_at [] = None
conns_at (t ∷ rest) = if is_sign (codes ".") t.kind then by_name_at t.place (t ∷ rest) else by_place_at t.place (t ∷ rest)

-- connections and the `)` after them
unfoldable pub closed_conns : Tokens → Found Conns
closed_conns ts = do
  c ← conns_at ts
  rest ← after (codes ")") c.1
  Some (c.0, rest)

unfoldable pub overrides_from : Tokens → Found (Option Conns)
overrides_from ts = do
  us ← after (codes "(") ts
  c ← closed_conns us
  Some (Some c.0, c.1)

unfoldable pub overrides_at : Tokens → Found (Option Conns)
overrides_at ts = found_or (after (codes "#") ts) (λ us. overrides_from us) (Some (None, ts))

unfoldable pub connected_from : Name → Tokens → Found Inst
connected_from n ts = do
  c ← closed_conns ts
  Some (record { place = n.place; name = n; conns = Some c.0 }, c.1)

-- an instance after its `(`
unfoldable pub inst_from : Name → Tokens → Found Inst
inst_from n ts = found_or (after (codes ")") ts) (λ rest. Some (record { place = n.place; name = n; conns = None }, rest)) (connected_from n ts)

unfoldable pub inst_at : Tokens → Found Inst
inst_at ts = do
  n ← name_at ts
  us ← after (codes "(") n.1
  inst_from n.0 us

-- ---- items

-- a list and the `;` after it; one reads an item of it
unfoldable pub listed : {A : Type 0} → (Tokens → Found A) → Tokens → Found (List A)
listed one ts = do
  l ← series_at one ts
  rest ← after (codes ";") l.1
  Some (l.0, rest)

unfoldable pub ports_item : Dir → Tokens → Found Item
ports_item d ts = do
  s ← port_shape_from d ts
  l ← listed name_at s.1
  Some (item d.place (form.Ports s.0.dir s.0.kind s.0.shape.signed s.0.shape.range l.0), l.1)

unfoldable pub nets_item : Place → NetWord → Tokens → Found Item
nets_item p w ts = do
  s ← shape_at ts
  l ← listed net_at s.1
  Some (item p (form.Nets w s.0.signed s.0.range l.0), l.1)

unfoldable pub vars_item : Place → VarType → Tokens → Found Item
vars_item p type ts = do
  l ← listed var_at ts
  Some (item p (form.Vars type l.0), l.1)

unfoldable pub regs_item : Place → Tokens → Found Item
regs_item p ts = do
  s ← shape_at ts
  vars_item p (type_of.Reg s.0.signed s.0.range) s.1

unfoldable pub params_item : Place → ParamWord → Tokens → Found Item
params_item p w ts = do
  s ← shape_at ts
  l ← listed param_part_at s.1
  Some (item p (form.Params w s.0.signed s.0.range l.0), l.1)

unfoldable pub assigns_item : Place → Tokens → Found Item
assigns_item p ts = do
  l ← listed assign_at ts
  Some (item p (form.Assign l.0), l.1)

unfoldable pub insts_item : Place → List ℕ → Tokens → Found Item
insts_item p text ts = do
  o ← overrides_at ts
  l ← listed inst_at o.1
  Some (item p (form.Insts (record { text = text; place = p }) o.0 l.0), l.1)

unfoldable pub initial_item : Place → Tokens → Found Item
initial_item p ts = do
  s ← stmt_at 200 ts
  Some (item p (form.Initial s.0), s.2)

unfoldable pub always_item : Place → Tokens → Found Item
always_item p ts = do
  s ← stmt_at 200 ts
  Some (item p (form.Always s.0), s.2)

-- an item by the word in front of it
unfoldable pub process_by : Place → List ℕ → Tokens → Found Item
process_by p text ts = if bytes_eq text (codes "assign") then assigns_item p ts else if bytes_eq text (codes "initial") then initial_item p ts
    else if bytes_eq text (codes "always") then always_item p ts else None

unfoldable pub vars_by : Place → List ℕ → Tokens → Found Item
vars_by p text ts = if bytes_eq text (codes "reg") then regs_item p ts else if bytes_eq text (codes "integer") then vars_item p type_of.Integer ts
    else if bytes_eq text (codes "time") then vars_item p type_of.Time ts else process_by p text ts

unfoldable pub params_by : Place → List ℕ → Tokens → Found Item
params_by p text ts = found_or (param_of text) (λ w. params_item p w ts) (vars_by p text ts)

unfoldable pub nets_by : Place → List ℕ → Tokens → Found Item
nets_by p text ts = found_or (net_of text) (λ w. nets_item p w ts) (params_by p text ts)

unfoldable pub word_item : Place → List ℕ → Tokens → Found Item
word_item p text ts = found_or (dir_of text) (λ d. ports_item (record { place = p; word = d }) ts) (nets_by p text ts)

abbrev pub item_by : TokenKind → Place → Tokens → Found Item
item_by (token.Word text) p rest = word_item p text rest
item_by (token.Name text) p rest = insts_item p text rest
item_by (token.System text) p rest = None
item_by (token.Sign text) p rest = None
item_by (token.Number value) p rest = None
item_by (token.Quoted text) p rest = None

unfoldable pub item_at : Tokens → Found Item
item_at [] = None
item_at (t ∷ rest) = item_by t.kind t.place rest

-- ---- what the readers read

-- A reader and its rule: what is read is a tree of the rule, and each is read where no token follows that may belong to it.
pub record Reads {A : Type 0} (One : Piece A) (Follow : Tokens → Type 0) (one : Tokens → Found A) : Type 0 where
  pub sound : (ts : Tokens) (x : A × Tokens) → one ts ≡ Some x → One ts x.1 x.0
  pub complete : (ts rest : Tokens) (a : A) → One ts rest a → Follow rest → one ts ≡ Some (a, rest)

-- no `else` may follow an item, whose statement may end in an `if` without one
abbrev pub EndsItem : Tokens → Type 0
EndsItem rest = after_word (codes "else") rest ≡ None

-- no `#` may follow where no parameters stand, and no `(` where no ports do
abbrev pub EndsParams : Tokens → Type 0
EndsParams rest = after (codes "#") rest ≡ None

abbrev pub EndsPortList : Tokens → Type 0
EndsPortList rest = after (codes "(") rest ≡ None

pub record ReadingsAreItems : Type 0 where
  pub items : Reads IsItem EndsItem item_at
  pub params : Reads IsParams EndsParams params_at
  pub port_lists : Reads IsPortList EndsPortList port_list_at
