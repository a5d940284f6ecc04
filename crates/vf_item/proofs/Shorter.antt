-- What a tree stands on is at least one token.
use Rattle.std.proofs.Common.{ℕ, ◌<◌, ◌≤◌, List, Option, ◌∷◌, length, ap, codes, arith}
use Rattle.vf_tree.specs.declared.words.Name.{Name}
use Rattle.vf_tree.specs.declared.expressions.TreeExpr.{TreeExpr}
use Rattle.vf_tree.specs.declared.modules.Range.{Range}
use Rattle.vf_tree.specs.declared.modules.Pparam.{Pparam}
use Rattle.vf_tree.specs.declared.modules.Hport.{Hport}
use Rattle.vf_tree.specs.declared.modules.Aport.{Aport}
use Rattle.vf_tree.specs.declared.modules.Ports.{Ports}
use Rattle.vf_tree.specs.declared.modules.Net.{Net}
use Rattle.vf_tree.specs.declared.modules.Var.{Var}
use Rattle.vf_tree.specs.declared.modules.ParamPart.{ParamPart}
use Rattle.vf_tree.specs.declared.modules.AssignPart.{AssignPart}
use Rattle.vf_tree.specs.declared.modules.NamedConn.{NamedConn}
use Rattle.vf_tree.specs.declared.modules.Conns.{Conns}
use Rattle.vf_tree.specs.declared.modules.Inst.{Inst}
use Rattle.vf_tree.specs.declared.modules.Item.{Item}
use Rattle.vf_expression.specs.Grammar.{Tokens, sign, word, name, IsExpr}
use Rattle.vf_expression.proofs.CallerLemmas.{expr_shorter}
use Rattle.vf_statement.proofs.CallerLemmas.{assign_part_shorter, stmt_shorter}
use Rattle.vf_item.specs.declared.shapes.Shape.{Shape}
use Rattle.vf_item.specs.declared.shapes.PortShape.{PortShape}
use Rattle.vf_item.specs.Rows.{Piece, IsAfterComma}
use Rattle.vf_item.specs.Grammar.{IsValue, value, IsName, named, IsRange, range, IsRangeOr, scalar, vector, IsShape, unsigned, signed, IsPortShape, untyped, typed, IsPparam, marked, unmarked, IsHport, port, IsAport, declared, repeated, IsPorts, names, declarations, IsPortList, no_list, empty_list, port_list, IsParams, no_params, param_list, IsNet, undriven, driven, IsVar, plain, set, IsParamPart, param_part, IsAssign, assign, IsSlot, empty, filled, IsNamedConn, conn, IsConns, lone, places, by_name, IsOverrides, no_overrides, overrides, IsInst, unconnected, connected, IsItem, port_names, nets, regs, integers, times, params, assigns, insts, initial, always}
use Rattle.vf_item.proofs.RowLemmas.{weaker, row_shorter, next_shorter, series_shorter}

pub value_shorter : (ts rest : Tokens) (e : TreeExpr) → IsValue ts rest e → length rest < length ts
value_shorter ts rest e (value n is) = expr_shorter 200 1 n ts rest e is

pub name_shorter : (ts rest : Tokens) (n : Name) → IsName ts rest n → length rest < length ts
name_shorter ts rest n (named p text spelled t) = omega (arith, ap length spelled)

range_shorter : (ts rest : Tokens) (r : Range) → IsRange ts rest r → length rest < length ts
range_shorter ts rest tree (range p q r us vs a b x y spelled t) = omega (arith, ap length spelled, value_shorter us (sign q (codes ":") ∷ vs) a x, value_shorter vs (sign r (codes "]") ∷ rest) b y)

range_or_shorter : (ts rest : Tokens) (r : Option Range) → IsRangeOr ts rest r → length rest ≤ length ts
range_or_shorter ts rest tree (scalar spelled t) = omega (arith, ap length spelled)
range_or_shorter ts rest tree (vector r is t) = omega (arith, range_shorter ts rest r is)

shape_shorter : (ts rest : Tokens) (s : Shape) → IsShape ts rest s → length rest ≤ length ts
shape_shorter ts rest s (unsigned r is t) = range_or_shorter ts rest r is
shape_shorter ts rest s (signed p us r is spelled t) = omega (arith, ap length spelled, range_or_shorter us rest r is)

port_shape_shorter : (ts rest : Tokens) (s : PortShape) → IsPortShape ts rest s → length rest < length ts
port_shape_shorter ts rest whole (untyped p text d us s is meant spelled t) = omega (arith, ap length spelled, shape_shorter us rest s is)
port_shape_shorter ts rest whole (typed p q text own d k us s is meant also spelled t) = omega (arith, ap length spelled, shape_shorter us rest s is)

pub pparam_shorter : (ts rest : Tokens) (tree : Pparam) → IsPparam ts rest tree → length rest < length ts
pparam_shorter ts rest tree (marked p q r text us vs s e x y spelled t) = omega (arith, ap length spelled, shape_shorter us (name q text ∷ sign r (codes "=") ∷ vs) s x, value_shorter vs rest e y)
pparam_shorter ts rest tree (unmarked u q r text us vs s e x y spelled t) = omega (arith, shape_shorter ts (name q text ∷ sign r (codes "=") ∷ vs) s x, value_shorter vs rest e y)

pub hport_shorter : (ts rest : Tokens) (tree : Hport) → IsHport ts rest tree → length rest < length ts
hport_shorter ts rest tree (port q text s is t) = omega (arith, port_shape_shorter ts (name q text ∷ rest) s is)

pub aport_shorter : (ts rest : Tokens) (tree : Aport) → IsAport ts rest tree → length rest < length ts
aport_shorter ts rest tree (declared h is t) = hport_shorter ts rest h is
aport_shorter ts rest tree (repeated n is t) = name_shorter ts rest n is

aport_within : (ts rest : Tokens) (tree : Aport) → IsAport ts rest tree → length rest ≤ length ts
aport_within ts rest tree is = weaker ts rest (aport_shorter ts rest tree is)

pub net_shorter : (ts rest : Tokens) (tree : Net) → IsNet ts rest tree → length rest < length ts
net_shorter ts rest tree (undriven p text spelled t) = omega (arith, ap length spelled)
net_shorter ts rest tree (driven p q text us e is spelled t) = omega (arith, ap length spelled, value_shorter us rest e is)

pub var_shorter : (ts rest : Tokens) (tree : Var) → IsVar ts rest tree → length rest < length ts
var_shorter ts rest tree (plain p text us r is spelled t) = omega (arith, ap length spelled, range_or_shorter us rest r is)
var_shorter ts rest tree (set p q text us e is spelled t) = omega (arith, ap length spelled, value_shorter us rest e is)

pub param_part_shorter : (ts rest : Tokens) (tree : ParamPart) → IsParamPart ts rest tree → length rest < length ts
param_part_shorter ts rest tree (param_part p q text us e is spelled t) = omega (arith, ap length spelled, value_shorter us rest e is)

pub assign_shorter : (ts rest : Tokens) (tree : AssignPart) → IsAssign ts rest tree → length rest < length ts
assign_shorter ts rest tree (assign n is) = assign_part_shorter 200 n ts rest tree is

pub slot_within : (ts rest : Tokens) (tree : Option TreeExpr) → IsSlot ts rest tree → length rest ≤ length ts
slot_within ts rest tree (empty spelled t) = omega (arith, ap length spelled)
slot_within ts rest tree (filled e is t) = omega (arith, value_shorter ts rest e is)

pub named_conn_shorter : (ts rest : Tokens) (tree : NamedConn) → IsNamedConn ts rest tree → length rest < length ts
named_conn_shorter ts rest tree (conn p q r s text us v is spelled t) = omega (arith, ap length spelled, slot_within us (sign s (codes ")") ∷ rest) v is)

conns_shorter : (ts rest : Tokens) (tree : Conns) → IsConns ts rest tree → length rest < length ts
conns_shorter ts rest tree (lone u us e is spelled t) = value_shorter ts rest e is
conns_shorter ts rest tree (places u us vs ws a b others x y more spelled t) =
    omega (arith, slot_within ts vs a x, next_shorter IsSlot slot_within vs ws b y, row_shorter (IsAfterComma IsSlot) (next_shorter IsSlot slot_within) ws rest others more)
conns_shorter ts rest tree (by_name u us ns is spelled t) = series_shorter IsNamedConn named_conn_shorter ts rest ns is

overrides_within : (ts rest : Tokens) (tree : Option Conns) → IsOverrides ts rest tree → length rest ≤ length ts
overrides_within ts rest tree (no_overrides spelled t) = omega (arith, ap length spelled)
overrides_within ts rest tree (overrides p q r us c is spelled t) = omega (arith, ap length spelled, conns_shorter us (sign r (codes ")") ∷ rest) c is)

pub inst_shorter : (ts rest : Tokens) (tree : Inst) → IsInst ts rest tree → length rest < length ts
inst_shorter ts rest tree (unconnected p q r text spelled t) = omega (arith, ap length spelled)
inst_shorter ts rest tree (connected p q r text us c is spelled t) = omega (arith, ap length spelled, conns_shorter us (sign r (codes ")") ∷ rest) c is)

pub item_shorter : (ts rest : Tokens) (tree : Item) → IsItem ts rest tree → length rest < length ts
item_shorter ts rest tree (port_names q us s ns x y t) = omega (arith, port_shape_shorter ts us s x, series_shorter IsName name_shorter us (sign q (codes ";") ∷ rest) ns y)
item_shorter ts rest tree (nets p q text w us vs s ns x y meant spelled t) = omega (arith, ap length spelled, shape_shorter us vs s x, series_shorter IsNet net_shorter vs (sign q (codes ";") ∷ rest) ns y)
item_shorter ts rest tree (regs p q us vs s ns x y spelled t) = omega (arith, ap length spelled, shape_shorter us vs s x, series_shorter IsVar var_shorter vs (sign q (codes ";") ∷ rest) ns y)
item_shorter ts rest tree (integers p q us ns y spelled t) = omega (arith, ap length spelled, series_shorter IsVar var_shorter us (sign q (codes ";") ∷ rest) ns y)
item_shorter ts rest tree (times p q us ns y spelled t) = omega (arith, ap length spelled, series_shorter IsVar var_shorter us (sign q (codes ";") ∷ rest) ns y)
item_shorter ts rest tree (params p q text w us vs s ps x y meant spelled t) = omega (arith, ap length spelled, shape_shorter us vs s x, series_shorter IsParamPart param_part_shorter vs (sign q (codes ";") ∷ rest) ps y)
item_shorter ts rest tree (assigns p q us parts y spelled t) = omega (arith, ap length spelled, series_shorter IsAssign assign_shorter us (sign q (codes ";") ∷ rest) parts y)
item_shorter ts rest tree (insts p q text us vs o is x y spelled t) = omega (arith, ap length spelled, overrides_within us vs o x, series_shorter IsInst inst_shorter vs (sign q (codes ";") ∷ rest) is y)
item_shorter ts rest tree (initial o n p us s is spelled t) = omega (arith, ap length spelled, stmt_shorter 200 o n us rest s is)
item_shorter ts rest tree (always o n p us s is spelled t) = omega (arith, ap length spelled, stmt_shorter 200 o n us rest s is)

ports_shorter : (ts rest : Tokens) (tree : Ports) → IsPorts ts rest tree → length rest < length ts
ports_shorter ts rest tree (names u us ns is spelled t) = series_shorter IsName name_shorter ts rest ns is
ports_shorter ts rest tree (declarations us h others is more t) = omega (arith, hport_shorter ts us h is, row_shorter (IsAfterComma IsAport) (next_shorter IsAport aport_within) us rest others more)

pub port_list_within : (ts rest : Tokens) (tree : Option (Option Ports)) → IsPortList ts rest tree → length rest ≤ length ts
port_list_within ts rest tree (no_list spelled t) = omega (arith, ap length spelled)
port_list_within ts rest tree (empty_list p q spelled t) = omega (arith, ap length spelled)
port_list_within ts rest tree (port_list p q us l is spelled t) = omega (arith, ap length spelled, ports_shorter us (sign q (codes ")") ∷ rest) l is)

pub params_within : (ts rest : Tokens) (tree : Option (List Pparam)) → IsParams ts rest tree → length rest ≤ length ts
params_within ts rest tree (no_params spelled t) = omega (arith, ap length spelled)
params_within ts rest tree (param_list p q r us l is spelled t) = omega (arith, ap length spelled, series_shorter IsPparam pparam_shorter us (sign r (codes ")") ∷ rest) l is)
