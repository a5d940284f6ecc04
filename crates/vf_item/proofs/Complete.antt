-- What the grammar says is read, where nothing follows that would go on with it.
use Rattle.std.proofs.Common.{◌≡◌, ℕ, zero, suc, ◌<◌, ◌≤◌, Bool, true, false, cond, List, [], ◌∷◌, ◌++◌, length, Option, Some, None, refl, ap, subst, sym, ◌∙◌, codes, arith}
use Rattle.std.specs.Str.{bytes_eq}
use Rattle.std.proofs.lemmas.Bool.{false_from_ne_true}
use Rattle.vf_base.specs.declared.names.Place.{Place}
use Rattle.vf_lexeme.specs.declared.kinds.TokenKind.{TokenKind}
use Rattle.vf_lexeme.specs.declared.kinds.TokenKind.TheVariants as token
use Rattle.vf_lex.specs.declared.token.Token.{Token}
use Rattle.vf_tree.specs.declared.words.Name.{Name}
use Rattle.vf_tree.specs.declared.expressions.TreeExpr.{TreeExpr}
use Rattle.vf_tree.specs.declared.modules.Range.{Range}
use Rattle.vf_tree.specs.declared.modules.DirWord.{DirWord}
use Rattle.vf_tree.specs.declared.modules.Dir.{Dir}
use Rattle.vf_tree.specs.declared.modules.Pparam.{Pparam}
use Rattle.vf_tree.specs.declared.modules.Hport.{Hport}
use Rattle.vf_tree.specs.declared.modules.Aport.{Aport}
use Rattle.vf_tree.specs.declared.modules.Ports.{Ports}
use Rattle.vf_tree.specs.declared.modules.PortsForm.TheVariants as port_forms
use Rattle.vf_tree.specs.declared.modules.Net.{Net}
use Rattle.vf_tree.specs.declared.modules.Var.{Var}
use Rattle.vf_tree.specs.declared.modules.VarType.TheVariants as types
use Rattle.vf_tree.specs.declared.modules.ParamPart.{ParamPart}
use Rattle.vf_tree.specs.declared.modules.AssignPart.{AssignPart}
use Rattle.vf_tree.specs.declared.modules.NamedConn.{NamedConn}
use Rattle.vf_tree.specs.declared.modules.Conns.{Conns}
use Rattle.vf_tree.specs.declared.modules.ConnsForm.TheVariants as conn_forms
use Rattle.vf_tree.specs.declared.modules.Inst.{Inst}
use Rattle.vf_tree.specs.declared.modules.Item.{Item}
use Rattle.vf_tree.specs.declared.modules.ItemForm.TheVariants as form
use Rattle.vf_expression.specs.Operators.{unary_of}
use Rattle.vf_expression.specs.Grammar.{Tokens, sign, word, name}
use Rattle.vf_expression.specs.Reading.{Ends, ◌>>=◌, found_or, is_sign, after, opening_at, operand_at, opened_at, signed_at, chained_at, expr_over, expr_at}
use Rattle.vf_expression.proofs.CallerLemmas.{after_again, after_other, opening_is, opening_other, ends_colon, ends_bracket, ends_close, ends_comma, kind_is, token_is, expr_reads}
use Rattle.vf_statement.specs.Reading.{EndsStmt, is_word, after_word, name_at, assign_part_at, stmt_at}
use Rattle.vf_statement.proofs.CallerLemmas.{after_word_again, after_word_other, word_token, not_word, assign_part_again, stmt_again}
use Rattle.vf_item.specs.declared.shapes.Shape.{Shape}
use Rattle.vf_item.specs.declared.shapes.PortShape.{PortShape}
use Rattle.vf_item.specs.Rows.{Piece, Found, IsRow, IsAfterComma, after_comma, IsSeries, series, more_at, series_at}
use Rattle.vf_item.specs.Words.{dir_of, kind_of, net_of, param_of}
use Rattle.vf_item.specs.Grammar.{item, IsValue, value, IsName, named, IsRange, range, IsRangeOr, scalar, vector, IsShape, unsigned, signed, IsPortShape, untyped, typed, IsPparam, marked, unmarked, IsHport, port, IsAport, declared, repeated, IsPorts, names, declarations, IsPortList, no_list, empty_list, port_list, IsParams, no_params, param_list, IsNet, undriven, driven, IsVar, plain, set, IsParamPart, param_part, IsAssign, assign, IsSlot, empty, filled, IsNamedConn, conn, IsConns, lone, places, by_name, IsOverrides, no_overrides, overrides, IsInst, unconnected, connected, IsItem, port_names, nets, regs, integers, times, params, assigns, insts, initial, always}
use Rattle.vf_item.specs.Reading.{is_name, value_at, init_at, range_from, vector_from, range_or, shape_from, shape_at, dir_at, kind_at, port_shape_by, port_shape_from, port_shape_at, pparam_from, pparam_at, hport_at, declared_at, bare_at, aport_at, names_at, declarations_at, ports_at, some_ports, port_list_from, port_list_at, params_from, params_at, driven_from, net_from, net_at, set_from, plain_from, var_from, var_at, param_part_at, assign_at, ends_slot, filled_at, slot_at, named_conn_at, by_name_at, lone_from, places_from, by_place_from, by_place_at, conns_at, closed_conns, overrides_from, overrides_at, connected_from, inst_from, inst_at, listed, ports_item, nets_item, vars_item, regs_item, params_item, assigns_item, insts_item, initial_item, always_item, process_by, vars_by, params_by, nets_by, word_item, item_at}
use Rattle.vf_item.proofs.RowLemmas.{weaker, more_reads, more_follows, series_reads}
use Rattle.vf_item.proofs.WordLemmas.{dir_again, kind_again, net_no_dir, param_no_dir, param_no_net, dir_no_word, net_no_word, param_no_word}
use Rattle.vf_item.proofs.Fronts.{StartsName, starts, name_no_sign, name_no_word, name_no_range, name_no_kind, name_reads, EndsPiece, piece_comma, piece_semicolon, piece_close, EndsSlot, at_comma, at_close, slot_ends}
use Rattle.vf_item.proofs.Shorter.{value_shorter, name_shorter, pparam_shorter, aport_shorter, net_shorter, var_shorter, param_part_shorter, assign_shorter, slot_within, named_conn_shorter, inst_shorter}

-- ---- parts

value_again : (ts rest : Tokens) (e : TreeExpr) → IsValue ts rest e → Ends 1 rest → value_at ts ≡ Some (e, rest)
unfolding value_at
value_again ts rest e (value n is) ends = rw (expr_reads 200 1 n ts rest e is ends) refl

range_again : (ts rest : Tokens) (r : Range) → IsRange ts rest r → (p : Place) × (us : Tokens) × (ts ≡ sign p (codes "[") ∷ us) × (range_from p us ≡ Some (r, rest))
unfolding range_from
range_again ts rest tree (range p q r us vs a b x y spelled t) = (
  p,
  us,
  spelled,
  rw (t, value_again us (sign q (codes ":") ∷ vs) a x (ends_colon q vs), after_again (codes ":") q vs, value_again vs (sign r (codes "]") ∷ rest) b y (ends_bracket r rest), after_again (codes "]") r rest) refl,
)

opening_again : (p : Place) (us : Tokens) → opening_at (sign p (codes "[") ∷ us) ≡ Some (p, us)
unfolding opening_at
opening_again p us = refl

range_or_again : (ts rest : Tokens) (r : Option Range) → IsRangeOr ts rest r → opening_at rest ≡ None → range_or ts ≡ Some (r, rest)
unfolding range_or vector_from
range_or_again ts rest tree (scalar spelled t) ends = rw (spelled, t, ends) refl
range_or_again ts rest tree (vector r is t) ends =
    let x = range_again ts rest r is in
    rw (x.2, t, opening_again x.0 x.1, x.3) refl

-- no word, and no sign but `[`, stands in front of a range
range_no_word : (text : List ℕ) (ts rest : Tokens) (r : Option Range) → IsRangeOr ts rest r → after_word text rest ≡ None → after_word text ts ≡ None
unfolding after_word
range_no_word text ts rest tree (scalar spelled t) e = rw spelled e
range_no_word text ts rest tree (vector r is t) e = let x = range_again ts rest r is in rw x.2 refl

range_no_sign : (text : List ℕ) (ts rest : Tokens) (r : Option Range) → IsRangeOr ts rest r → bytes_eq (codes "[") text ≡ false → after text rest ≡ None → after text ts ≡ None
range_no_sign text ts rest tree (scalar spelled t) other e = rw spelled e
range_no_sign text ts rest tree (vector r is t) other e = let x = range_again ts rest r is in rw x.2 (after_other text (codes "[") x.0 x.1 other)

range_no_kind : (ts rest : Tokens) (r : Option Range) → IsRangeOr ts rest r → kind_at rest ≡ None → kind_at ts ≡ None
unfolding kind_at
range_no_kind ts rest tree (scalar spelled t) e = rw spelled e
range_no_kind ts rest tree (vector r is t) e = let x = range_again ts rest r is in rw x.2 refl

shape_again : (ts rest : Tokens) (s : Shape) → IsShape ts rest s → StartsName rest → shape_at ts ≡ Some (s, rest)
unfolding shape_at shape_from
shape_again ts rest s (unsigned r is t) front =
    rw (t, range_no_word (codes "signed") ts rest r is (name_no_word (codes "signed") rest front), range_or_again ts rest r is (name_no_range rest front)) refl
shape_again ts rest s (signed p us r is spelled t) front = rw (spelled, t, after_word_again (codes "signed") p us, range_or_again us rest r is (name_no_range rest front)) refl

shape_no_kind : (ts rest : Tokens) (s : Shape) → IsShape ts rest s → kind_at rest ≡ None → kind_at ts ≡ None
unfolding kind_at kind_of
shape_no_kind ts rest s (unsigned r is t) e = range_no_kind ts rest r is e
shape_no_kind ts rest s (signed p us r is spelled t) e = rw spelled refl

-- a shape begins with no other word than `signed`
shape_no_word : (text : List ℕ) (ts rest : Tokens) (s : Shape) → IsShape ts rest s → bytes_eq (codes "signed") text ≡ false → StartsName rest → after_word text ts ≡ None
shape_no_word text ts rest s (unsigned r is t) other front = range_no_word text ts rest r is (name_no_word text rest front)
shape_no_word text ts rest s (signed p us r is spelled t) other front = rw spelled (after_word_other text (codes "signed") p us other)

-- what a port is, after its direction
port_shape_again : (ts rest : Tokens) (s : PortShape) → IsPortShape ts rest s → StartsName rest
    → (p : Place) × (text : List ℕ) × (d : DirWord) × (us : Tokens) × (ts ≡ word p text ∷ us) × (dir_of text ≡ Some d) × (port_shape_from (record { place = p; word = d }) us ≡ Some (s, rest)) × (s.dir ≡ record { place = p; word = d })
unfolding port_shape_from port_shape_by
port_shape_again ts rest whole (untyped p text d us s is meant spelled t) front = (
  p,
  text,
  d,
  us,
  spelled,
  meant,
  rw (t, shape_no_kind us rest s is (name_no_kind rest front), shape_again us rest s is front) refl,
  ap (λ (s : PortShape). s.dir) t,
)
port_shape_again ts rest whole (typed p q text own d k us s is meant also spelled t) front = (
  p,
  text,
  d,
  word q own ∷ us,
  spelled,
  meant,
  rw (t, kind_again q own k us also, shape_again us rest s is front) refl,
  ap (λ (s : PortShape). s.dir) t,
)

port_shape_at_again : (ts rest : Tokens) (s : PortShape) → IsPortShape ts rest s → StartsName rest → port_shape_at ts ≡ Some (s, rest)
unfolding port_shape_at
port_shape_at_again ts rest s is front =
    let x = port_shape_again ts rest s is front in
    rw (x.4, dir_again x.0 x.1 x.2 x.3 x.5, x.6) refl

-- ---- headers of modules

name_at_front : (p : Place) (text : List ℕ) (us : Tokens) → name_at (name p text ∷ us) ≡ Some (record { text = text; place = p }, us)
unfolding name_at
name_at_front p text us = refl

pparam_from_again : (p q r : Place) (m : Bool) (text : List ℕ) (ts vs rest : Tokens) (s : Shape) (e : TreeExpr) → IsShape ts (name q text ∷ sign r (codes "=") ∷ vs) s → IsValue vs rest e → Ends 1 rest
    → pparam_from p m ts ≡ Some (record { place = p; parameter = m; signed = s.signed; range = s.range; name = record { text = text; place = q }; value = e }, rest)
unfolding pparam_from init_at
pparam_from_again p q r m text ts vs rest s e x y ends =
    rw (shape_again ts (name q text ∷ sign r (codes "=") ∷ vs) s x (starts q text (sign r (codes "=") ∷ vs) refl), name_at_front q text (sign r (codes "=") ∷ vs), after_again (codes "=") r vs, value_again vs rest e y ends) refl

pub pparam_again : (ts rest : Tokens) (tree : Pparam) → IsPparam ts rest tree → Ends 1 rest → pparam_at ts ≡ Some (tree, rest)
unfolding pparam_at
pparam_again ts rest tree (marked p q r text us vs s e x y spelled t) ends = rw (spelled, t) (pparam_from_again p q r true text us vs rest s e x y ends)
pparam_again ts rest tree (unmarked u q r text us vs s e x y spelled t) ends =
    let other : is_word (codes "parameter") u.kind ≡ false = not_word (codes "parameter") u us (subst (λ ws. after_word (codes "parameter") ws ≡ None) spelled (shape_no_word (codes "parameter") ts (name q text ∷ sign r (codes "=") ∷ vs) s x refl (starts q text (sign r (codes "=") ∷ vs) refl))) in
    let shaped : IsShape (u ∷ us) (name q text ∷ sign r (codes "=") ∷ vs) s = subst (λ ws. IsShape ws (name q text ∷ sign r (codes "=") ∷ vs) s) spelled x in
    rw (spelled, t, other) (pparam_from_again u.place q r false text (u ∷ us) vs rest s e shaped y ends)

hport_again : (ts rest : Tokens) (tree : Hport) → IsHport ts rest tree → hport_at ts ≡ Some (tree, rest)
unfolding hport_at
hport_again ts rest tree (port q text s is t) = rw (t, port_shape_at_again ts (name q text ∷ rest) s is (starts q text rest refl), name_at_front q text rest) refl

-- a declared port begins with a word
hport_front : (ts rest : Tokens) (tree : Hport) → IsHport ts rest tree → (p : Place) × (text : List ℕ) × (us : Tokens) × (ts ≡ word p text ∷ us)
hport_front ts rest tree (port q text s is t) = let x = port_shape_again ts (name q text ∷ rest) s is (starts q text rest refl) in (x.0, x.1, x.3, x.4)

aport_again : (ts rest : Tokens) (tree : Aport) → IsAport ts rest tree → aport_at ts ≡ Some (tree, rest)
unfolding aport_at bare_at declared_at
aport_again ts rest tree (declared h is t) =
    let f = hport_front ts rest h is in
    let read : hport_at (word f.0 f.1 ∷ f.2) ≡ Some (h, rest) = subst (λ us. hport_at us ≡ Some (h, rest)) f.3 (hport_again ts rest h is) in
    rw (f.3, t, read) refl
aport_again ts rest tree (repeated n (named p text spelled own) t) = rw (spelled, t, own, name_at_front p text rest) refl

series_front : {A : Type 0} (One : Piece A) → ((ts rest : Tokens) (a : A) → One ts rest a → StartsName ts) → (ts rest : Tokens) (items : List A) → IsSeries One ts rest items → StartsName ts
series_front One front ts rest items (series us a others is more e) = front ts us a is

name_front : (ts rest : Tokens) (n : Name) → IsName ts rest n → StartsName ts
name_front ts rest n (named p text spelled t) = starts p text rest spelled

names_again : (ts rest : Tokens) (ns : List Name) → IsSeries IsName ts rest ns → after (codes ",") rest ≡ None → series_at name_at ts ≡ Some (ns, rest)
names_again ts rest ns is no_comma = series_reads IsName name_at (λ vs. Unit {0}) (λ vs ws a one. weaker vs ws (name_shorter vs ws a one)) (λ q vs. tt) (λ vs ws a one ends. name_reads vs ws a one) ts rest ns is tt no_comma

ports_names : (ts us rest : Tokens) (u : Token) (ns : List Name) (tree : Ports) → StartsName ts → ts ≡ u ∷ us → series_at name_at ts ≡ Some (ns, rest) → tree ≡ record { place = u.place; form = port_forms.Names ns } → ports_at ts ≡ Some (tree, rest)
unfolding ports_at names_at
ports_names ts us rest u ns tree (starts p text vs front) spelled read t =
    let same : u ∷ us ≡ name p text ∷ vs = sym spelled ∙ front in
    let first : u ≡ name p text = cc in
    let place : u.place ≡ p = ap (λ (t : Token). t.place) first in
    let here : series_at name_at (name p text ∷ vs) ≡ Some (ns, rest) = subst (λ ws. series_at name_at ws ≡ Some (ns, rest)) front read in
    rw (front, t, here, place) refl

ports_again : (ts rest : Tokens) (tree : Ports) → IsPorts ts rest tree → after (codes ",") rest ≡ None → ports_at ts ≡ Some (tree, rest)
unfolding ports_at declarations_at
ports_again ts rest tree (names u us ns is spelled t) no_comma = ports_names ts us rest u ns tree (series_front IsName name_front ts rest ns is) spelled (names_again ts rest ns is no_comma) t
ports_again ts rest tree (declarations us h others is more t) no_comma =
    let f = hport_front ts us h is in
    let read : hport_at (word f.0 f.1 ∷ f.2) ≡ Some (h, us) = subst (λ vs. hport_at vs ≡ Some (h, us)) f.3 (hport_again ts us h is) in
    let later : more_at aport_at [] us ≡ Some (others, rest) = more_reads IsAport aport_at (λ vs. Unit {0}) (λ vs ws a one. weaker vs ws (aport_shorter vs ws a one)) (λ q vs. tt) (λ vs ws a one ends. aport_again vs ws a one) us rest others [] more tt no_comma in
    rw (f.3, t, read, later) refl

-- ports do not begin with a `)`
ports_front : (ts rest : Tokens) (tree : Ports) → IsPorts ts rest tree → after (codes ")") ts ≡ None
unfolding after
ports_front ts rest tree (names u us ns is spelled t) = name_no_sign (codes ")") ts (series_front IsName name_front ts rest ns is)
ports_front ts rest tree (declarations us h others is more t) = let f = hport_front ts us h is in rw f.3 refl

pub port_list_again : (ts rest : Tokens) (tree : Option (Option Ports)) → IsPortList ts rest tree → after (codes "(") rest ≡ None → port_list_at ts ≡ Some (tree, rest)
unfolding port_list_at port_list_from some_ports
port_list_again ts rest tree (no_list spelled t) ends = rw (spelled, t, ends) refl
port_list_again ts rest tree (empty_list p q spelled t) ends = rw (spelled, t, after_again (codes "(") p (sign q (codes ")") ∷ rest), after_again (codes ")") q rest) refl
port_list_again ts rest tree (port_list p q us l is spelled t) ends =
    rw (spelled, t, after_again (codes "(") p us, ports_front us (sign q (codes ")") ∷ rest) l is, ports_again us (sign q (codes ")") ∷ rest) l is (after_other (codes ",") (codes ")") q rest refl), after_again (codes ")") q rest) refl

pub params_again : (ts rest : Tokens) (tree : Option (List Pparam)) → IsParams ts rest tree → after (codes "#") rest ≡ None → params_at ts ≡ Some (tree, rest)
unfolding params_at params_from
params_again ts rest tree (no_params spelled t) ends = rw (spelled, t, ends) refl
params_again ts rest tree (param_list p q r us l is spelled t) ends =
    let read : series_at pparam_at us ≡ Some (l, sign r (codes ")") ∷ rest) = series_reads IsPparam pparam_at (Ends 1) (λ vs ws a one. weaker vs ws (pparam_shorter vs ws a one)) ends_comma pparam_again us (sign r (codes ")") ∷ rest) l is (ends_close r rest) (after_other (codes ",") (codes ")") r rest refl) in
    rw (spelled, t, after_again (codes "#") p (sign q (codes "(") ∷ us), after_again (codes "(") q us, read, after_again (codes ")") r rest) refl

-- ---- parts of items

net_again : (ts rest : Tokens) (tree : Net) → IsNet ts rest tree → EndsPiece rest → net_at ts ≡ Some (tree, rest)
unfolding net_at net_from driven_from
net_again ts rest tree (undriven p text spelled t) ends = rw (spelled, t, name_at_front p text rest, ends.equal) refl
net_again ts rest tree (driven p q text us e is spelled t) ends =
    rw (spelled, t, name_at_front p text (sign q (codes "=") ∷ us), after_again (codes "=") q us, value_again us rest e is ends.ends) refl

net_front : (ts rest : Tokens) (tree : Net) → IsNet ts rest tree → StartsName ts
net_front ts rest tree (undriven p text spelled t) = starts p text rest spelled
net_front ts rest tree (driven p q text us e is spelled t) = starts p text (sign q (codes "=") ∷ us) spelled

var_again : (ts rest : Tokens) (tree : Var) → IsVar ts rest tree → EndsPiece rest → var_at ts ≡ Some (tree, rest)
unfolding var_at var_from set_from plain_from
var_again ts rest tree (plain p text us r is spelled t) ends =
    rw (spelled, t, name_at_front p text us, range_no_sign (codes "=") us rest r is refl ends.equal, range_or_again us rest r is ends.ends.select) refl
var_again ts rest tree (set p q text us e is spelled t) ends =
    rw (spelled, t, name_at_front p text (sign q (codes "=") ∷ us), after_again (codes "=") q us, value_again us rest e is ends.ends) refl

param_part_again : (ts rest : Tokens) (tree : ParamPart) → IsParamPart ts rest tree → EndsPiece rest → param_part_at ts ≡ Some (tree, rest)
unfolding param_part_at init_at
param_part_again ts rest tree (param_part p q text us e is spelled t) ends =
    rw (spelled, t, name_at_front p text (sign q (codes "=") ∷ us), after_again (codes "=") q us, value_again us rest e is ends.ends) refl

param_part_front : (ts rest : Tokens) (tree : ParamPart) → IsParamPart ts rest tree → StartsName ts
param_part_front ts rest tree (param_part p q text us e is spelled t) = starts p text (sign q (codes "=") ∷ us) spelled

var_front : (ts rest : Tokens) (tree : Var) → IsVar ts rest tree → StartsName ts
var_front ts rest tree (plain p text us r is spelled t) = starts p text us spelled
var_front ts rest tree (set p q text us e is spelled t) = starts p text (sign q (codes "=") ∷ us) spelled

assign_again : (ts rest : Tokens) (tree : AssignPart) → IsAssign ts rest tree → EndsPiece rest → assign_at ts ≡ Some (tree, rest)
unfolding assign_at
assign_again ts rest tree (assign n is) ends = rw (assign_part_again 200 n ts rest tree is ends.ends) refl

-- ---- connections

sign_no_expr : (d k : ℕ) (p : Place) (text : List ℕ) (us : Tokens) → unary_of text ≡ None → bytes_eq text (codes "(") ≡ false → bytes_eq text (codes "{") ≡ false → expr_at d k (sign p text ∷ us) ≡ None
unfolding expr_at expr_over chained_at operand_at signed_at opened_at
sign_no_expr zero k p text us a b c = refl
sign_no_expr (suc d) k p text us a b c = rw (a, b, c) refl

sign_no_value : (p : Place) (text : List ℕ) (us : Tokens) → unary_of text ≡ None → bytes_eq text (codes "(") ≡ false → bytes_eq text (codes "{") ≡ false → value_at (sign p text ∷ us) ≡ None
unfolding value_at
sign_no_value p text us a b c = rw (sign_no_expr 200 1 p text us a b c) refl

never_some : {A : Type 0} (o : Option A) (x : A) → o ≡ None → o ≡ Some x → ⊥
never_some o x a b = absurd cc

-- a token that nothing is read from is not the first of what is read
not_sign : (text : List ℕ) (t : Token) (us : Tokens) (x : TreeExpr × Tokens) → ((q : Place) → value_at (sign q text ∷ us) ≡ None) → value_at (t ∷ us) ≡ Some x → is_sign text t.kind ≡ false
not_sign text t us x never read =
    false_from_ne_true (is_sign text t.kind) (λ same.
    let front : t ≡ sign t.place text = token_is t (token.Sign text) (kind_is text t.kind same) in
    never_some (value_at (t ∷ us)) x (ap (λ (u : Token). value_at (u ∷ us)) front ∙ never t.place) read)

no_slot_by : (k : TokenKind) → is_sign (codes ",") k ≡ false → is_sign (codes ")") k ≡ false → ends_slot k ≡ false
no_slot_by (token.Sign text) a b = rw (a, b) refl
no_slot_by (token.Name text) a b = refl
no_slot_by (token.System text) a b = refl
no_slot_by (token.Word text) a b = refl
no_slot_by (token.Number v) a b = refl
no_slot_by (token.Quoted text) a b = refl

value_no_slot : (t : Token) (us : Tokens) (x : TreeExpr × Tokens) → value_at (t ∷ us) ≡ Some x → ends_slot t.kind ≡ false
unfolding unary_of
value_no_slot t us x read =
    no_slot_by t.kind (not_sign (codes ",") t us x (λ q. sign_no_value q (codes ",") us refl refl refl) read) (not_sign (codes ")") t us x (λ q. sign_no_value q (codes ")") us refl refl refl) read)

value_no_dot : (t : Token) (us : Tokens) (x : TreeExpr × Tokens) → value_at (t ∷ us) ≡ Some x → is_sign (codes ".") t.kind ≡ false
unfolding unary_of
value_no_dot t us x read = not_sign (codes ".") t us x (λ q. sign_no_value q (codes ".") us refl refl refl) read

slot_again : (ts rest : Tokens) (o : Option TreeExpr) → IsSlot ts rest o → EndsSlot rest → slot_at ts ≡ Some (o, rest)
unfolding slot_at filled_at
slot_again ts rest o (empty spelled t) (at_comma q us e) = rw (spelled, e, t) refl
slot_again ts rest o (empty spelled t) (at_close q us e) = rw (spelled, e, t) refl
slot_again [] rest o (filled e is t) ends = absurd (omega (arith, value_shorter [] rest e is))
slot_again (u ∷ us) rest o (filled e is t) ends =
    let read : value_at (u ∷ us) ≡ Some (e, rest) = value_again (u ∷ us) rest e is (slot_ends rest ends) in
    rw (value_no_slot u us (e, rest) read, t, read) refl

named_conn_again : (ts rest : Tokens) (tree : NamedConn) → IsNamedConn ts rest tree → named_conn_at ts ≡ Some (tree, rest)
unfolding named_conn_at
named_conn_again ts rest tree (conn p q r s text us v is spelled t) =
    rw (
      spelled,
      t,
      after_again (codes ".") p (name q text ∷ sign r (codes "(") ∷ us),
      name_at_front q text (sign r (codes "(") ∷ us),
      after_again (codes "(") r us,
      slot_again us (sign s (codes ")") ∷ rest) v is (at_close s rest refl),
      after_again (codes ")") s rest,
    )
    refl

named_conns_again : (ts rest : Tokens) (ns : List NamedConn) → IsSeries IsNamedConn ts rest ns → after (codes ",") rest ≡ None → series_at named_conn_at ts ≡ Some (ns, rest)
named_conns_again ts rest ns is no_comma = series_reads IsNamedConn named_conn_at (λ vs. Unit {0}) (λ vs ws a one. weaker vs ws (named_conn_shorter vs ws a one)) (λ q vs. tt) (λ vs ws a one ends. named_conn_again vs ws a one) ts rest ns is tt no_comma

-- the sign at the front of connections by name, and of no others
by_name_front : (ts rest : Tokens) (ns : List NamedConn) → IsSeries IsNamedConn ts rest ns → (p : Place) × (us : Tokens) × (ts ≡ sign p (codes ".") ∷ us)
by_name_front ts rest ns (series vs a others (conn p q r s text us v is spelled t) more e) = (p, name q text ∷ sign r (codes "(") ∷ us, spelled)

slot_no_dot : (t : Token) (us rest : Tokens) (o : Option TreeExpr) → IsSlot (t ∷ us) rest o → EndsSlot rest → is_sign (codes ".") t.kind ≡ false
slot_no_dot t us rest o (empty spelled same) (at_comma q vs e) =
    let both : t ∷ us ≡ sign q (codes ",") ∷ vs = spelled ∙ e in
    let first : t ≡ sign q (codes ",") = cc in
    rw first refl
slot_no_dot t us rest o (empty spelled same) (at_close q vs e) =
    let both : t ∷ us ≡ sign q (codes ")") ∷ vs = spelled ∙ e in
    let first : t ≡ sign q (codes ")") = cc in
    rw first refl
slot_no_dot t us rest o (filled e is same) ends = value_no_dot t us (e, rest) (value_again (t ∷ us) rest e is (slot_ends rest ends))

by_name_again : (ts us rest : Tokens) (u : Token) (p : Place) (vs : Tokens) (ns : List NamedConn) (tree : Conns) → ts ≡ sign p (codes ".") ∷ vs → ts ≡ u ∷ us → series_at named_conn_at ts ≡ Some (ns, rest) → tree ≡ record { place = u.place; form = conn_forms.Names ns }
    → conns_at ts ≡ Some (tree, rest)
unfolding conns_at by_name_at
by_name_again ts us rest u p vs ns tree front spelled read t =
    let same : u ∷ us ≡ sign p (codes ".") ∷ vs = sym spelled ∙ front in
    let first : u ≡ sign p (codes ".") = cc in
    let place : u.place ≡ p = ap (λ (t : Token). t.place) first in
    let here : series_at named_conn_at (sign p (codes ".") ∷ vs) ≡ Some (ns, rest) = subst (λ ws. series_at named_conn_at ws ≡ Some (ns, rest)) front read in
    rw (front, t, here, place) refl

places_again : (p : Place) (first : Option TreeExpr) (vs ws rest : Tokens) (b : Option TreeExpr) (others : List (Option TreeExpr)) → IsAfterComma IsSlot vs ws b → IsRow (IsAfterComma IsSlot) ws rest others → EndsSlot rest → after (codes ",") rest ≡ None
    → by_place_from p first vs ≡ Some (record { place = p; form = conn_forms.Places (first ∷ b ∷ others) }, rest)
unfolding by_place_from places_from
places_again p first vs ws rest b others (after_comma q us is spelled) more ends no_comma =
    let follows : EndsSlot ws = more_follows IsSlot slot_at EndsSlot slot_within (λ r xs. at_comma r xs refl) slot_again ws rest others more ends in
    let later : more_at slot_at (first ∷ b ∷ []) ws ≡ Some (first ∷ b ∷ others, rest) = more_reads IsSlot slot_at EndsSlot slot_within (λ r xs. at_comma r xs refl) slot_again ws rest others (first ∷ b ∷ []) more ends no_comma in
    rw (spelled, after_again (codes ",") q us, slot_again us ws b is follows, later) refl

comma_ends : (vs ws : Tokens) (b : Option TreeExpr) → IsAfterComma IsSlot vs ws b → EndsSlot vs
comma_ends vs ws b (after_comma q us is spelled) = at_comma q us spelled

places_whole : (ts us vs rest : Tokens) (u : Token) (a : Option TreeExpr) (c : Conns) → ts ≡ u ∷ us → is_sign (codes ".") u.kind ≡ false → slot_at (u ∷ us) ≡ Some (a, vs) → by_place_from u.place a vs ≡ Some (c, rest) → conns_at ts ≡ Some (c, rest)
unfolding conns_at by_place_at
places_whole ts us vs rest u a c spelled dot first later = rw (spelled, dot, first, later) refl

conns_again : (ts rest : Tokens) (r : Place) (c : Conns) → IsConns ts (sign r (codes ")") ∷ rest) c → conns_at ts ≡ Some (c, sign r (codes ")") ∷ rest)
unfolding conns_at by_place_at by_place_from slot_at filled_at
conns_again ts rest r c (lone u us e is spelled t) =
    let read : value_at (u ∷ us) ≡ Some (e, sign r (codes ")") ∷ rest) = subst (λ ws. value_at ws ≡ Some (e, sign r (codes ")") ∷ rest)) spelled (value_again ts (sign r (codes ")") ∷ rest) e is (ends_close r rest)) in
    rw (spelled, t, value_no_dot u us (e, sign r (codes ")") ∷ rest) read, value_no_slot u us (e, sign r (codes ")") ∷ rest) read, read, after_other (codes ",") (codes ")") r rest refl) refl
conns_again ts rest r c (places u us vs ws a b others x y more spelled t) =
    let slot : IsSlot (u ∷ us) vs a = subst (λ ws. IsSlot ws vs a) spelled x in
    let ends = comma_ends vs ws b y in
    let first : slot_at (u ∷ us) ≡ Some (a, vs) = slot_again (u ∷ us) vs a slot ends in
    let later = places_again u.place a vs ws (sign r (codes ")") ∷ rest) b others y more (at_close r rest refl) (after_other (codes ",") (codes ")") r rest refl) in
    places_whole ts us vs (sign r (codes ")") ∷ rest) u a c spelled (slot_no_dot u us vs a slot ends) first (rw t later)
conns_again ts rest r c (by_name u us ns is spelled t) =
    let f = by_name_front ts (sign r (codes ")") ∷ rest) ns is in
    by_name_again ts us (sign r (codes ")") ∷ rest) u f.0 f.1 ns c f.2 spelled (named_conns_again ts (sign r (codes ")") ∷ rest) ns is (after_other (codes ",") (codes ")") r rest refl)) t

closed_conns_again : (ts rest : Tokens) (r : Place) (c : Conns) → IsConns ts (sign r (codes ")") ∷ rest) c → closed_conns ts ≡ Some (c, rest)
unfolding closed_conns
closed_conns_again ts rest r c is = rw (conns_again ts rest r c is, after_again (codes ")") r rest) refl

overrides_again : (ts rest : Tokens) (o : Option Conns) → IsOverrides ts rest o → after (codes "#") rest ≡ None → overrides_at ts ≡ Some (o, rest)
unfolding overrides_at overrides_from
overrides_again ts rest o (no_overrides spelled t) ends = rw (spelled, t, ends) refl
overrides_again ts rest o (overrides p q r us c is spelled t) ends = rw (spelled, t, after_again (codes "#") p (sign q (codes "(") ∷ us), after_again (codes "(") q us, closed_conns_again us rest r c is) refl

close_text : (a b : Bool) → cond a true b ≡ false → b ≡ false
close_text true b e = absurd cc
close_text false b e = e

close_by : (k : TokenKind) → ends_slot k ≡ false → is_sign (codes ")") k ≡ false
close_by (token.Sign text) e = close_text (bytes_eq text (codes ",")) (bytes_eq text (codes ")")) e
close_by (token.Name text) e = refl
close_by (token.System text) e = refl
close_by (token.Word text) e = refl
close_by (token.Number v) e = refl
close_by (token.Quoted text) e = refl

not_close : (t : Token) (us : Tokens) → ends_slot t.kind ≡ false → after (codes ")") (t ∷ us) ≡ None
unfolding after
not_close t us e = rw (close_by t.kind e) refl

slot_no_close : (ts us vs ws : Tokens) (u : Token) (a b : Option TreeExpr) → IsSlot ts vs a → IsAfterComma IsSlot vs ws b → ts ≡ u ∷ us → after (codes ")") ts ≡ None
slot_no_close ts us vs ws u a b (empty same t) (after_comma q xs y front) spelled = rw (same, front) (after_other (codes ")") (codes ",") q xs refl)
slot_no_close ts us vs ws u a b (filled e is t) y spelled =
    let read : value_at (u ∷ us) ≡ Some (e, vs) = subst (λ zs. value_at zs ≡ Some (e, vs)) spelled (value_again ts vs e is (slot_ends vs (comma_ends vs ws b y))) in
    rw spelled (not_close u us (value_no_slot u us (e, vs) read))

-- connections do not begin with a `)`
conns_no_close : (ts rest : Tokens) (r : Place) (c : Conns) → IsConns ts (sign r (codes ")") ∷ rest) c → after (codes ")") ts ≡ None
conns_no_close ts rest r c (lone u us e is spelled t) =
    let read : value_at (u ∷ us) ≡ Some (e, sign r (codes ")") ∷ rest) = subst (λ ws. value_at ws ≡ Some (e, sign r (codes ")") ∷ rest)) spelled (value_again ts (sign r (codes ")") ∷ rest) e is (ends_close r rest)) in
    rw spelled (not_close u us (value_no_slot u us (e, sign r (codes ")") ∷ rest) read))
conns_no_close ts rest r c (places u us vs ws a b others x y more spelled t) = slot_no_close ts us vs ws u a b x y spelled
conns_no_close ts rest r c (by_name u us ns is spelled t) =
    let f = by_name_front ts (sign r (codes ")") ∷ rest) ns is in
    rw f.2 (after_other (codes ")") (codes ".") f.0 f.1 refl)

inst_again : (ts rest : Tokens) (tree : Inst) → IsInst ts rest tree → inst_at ts ≡ Some (tree, rest)
unfolding inst_at inst_from connected_from
inst_again ts rest tree (unconnected p q r text spelled t) =
    rw (spelled, t, name_at_front p text (sign q (codes "(") ∷ sign r (codes ")") ∷ rest), after_again (codes "(") q (sign r (codes ")") ∷ rest), after_again (codes ")") r rest) refl
inst_again ts rest tree (connected p q r text us c is spelled t) =
    rw (spelled, t, name_at_front p text (sign q (codes "(") ∷ us), after_again (codes "(") q us, conns_no_close us rest r c is, closed_conns_again us rest r c is) refl

inst_front : (ts rest : Tokens) (tree : Inst) → IsInst ts rest tree → StartsName ts
inst_front ts rest tree (unconnected p q r text spelled t) = starts p text (sign q (codes "(") ∷ sign r (codes ")") ∷ rest) spelled
inst_front ts rest tree (connected p q r text us c is spelled t) = starts p text (sign q (codes "(") ∷ us) spelled

-- ---- items

listed_again : {A : Type 0} (One : Piece A) (one : Tokens → Found A) (Follow : Tokens → Type 0) → ((ts rest : Tokens) (a : A) → One ts rest a → length rest < length ts) → ((q : Place) (us : Tokens) → Follow (sign q (codes ",") ∷ us))
    → ((q : Place) (us : Tokens) → Follow (sign q (codes ";") ∷ us)) → ((ts rest : Tokens) (a : A) → One ts rest a → Follow rest → one ts ≡ Some (a, rest)) → (ts rest : Tokens) (q : Place) (items : List A)
    → IsSeries One ts (sign q (codes ";") ∷ rest) items → listed one ts ≡ Some (items, rest)
unfolding listed
listed_again One one Follow shorter comma semicolon complete ts rest q items is =
    let read : series_at one ts ≡ Some (items, sign q (codes ";") ∷ rest) = series_reads One one Follow (λ vs ws a one. weaker vs ws (shorter vs ws a one)) comma complete ts (sign q (codes ";") ∷ rest) items is (semicolon q rest) (after_other (codes ",") (codes ";") q rest refl) in
    rw (read, after_again (codes ";") q rest) refl

listed_names : (ts rest : Tokens) (q : Place) (ns : List Name) → IsSeries IsName ts (sign q (codes ";") ∷ rest) ns → listed name_at ts ≡ Some (ns, rest)
listed_names ts rest q ns is = listed_again IsName name_at (λ vs. Unit {0}) name_shorter (λ p us. tt) (λ p us. tt) (λ vs ws a one ends. name_reads vs ws a one) ts rest q ns is

listed_nets : (ts rest : Tokens) (q : Place) (ns : List Net) → IsSeries IsNet ts (sign q (codes ";") ∷ rest) ns → listed net_at ts ≡ Some (ns, rest)
listed_nets ts rest q ns is = listed_again IsNet net_at EndsPiece net_shorter piece_comma piece_semicolon net_again ts rest q ns is

listed_vars : (ts rest : Tokens) (q : Place) (ns : List Var) → IsSeries IsVar ts (sign q (codes ";") ∷ rest) ns → listed var_at ts ≡ Some (ns, rest)
listed_vars ts rest q ns is = listed_again IsVar var_at EndsPiece var_shorter piece_comma piece_semicolon var_again ts rest q ns is

listed_param_parts : (ts rest : Tokens) (q : Place) (ps : List ParamPart) → IsSeries IsParamPart ts (sign q (codes ";") ∷ rest) ps → listed param_part_at ts ≡ Some (ps, rest)
listed_param_parts ts rest q ps is = listed_again IsParamPart param_part_at EndsPiece param_part_shorter piece_comma piece_semicolon param_part_again ts rest q ps is

listed_assigns : (ts rest : Tokens) (q : Place) (ps : List AssignPart) → IsSeries IsAssign ts (sign q (codes ";") ∷ rest) ps → listed assign_at ts ≡ Some (ps, rest)
listed_assigns ts rest q ps is = listed_again IsAssign assign_at EndsPiece assign_shorter piece_comma piece_semicolon assign_again ts rest q ps is

listed_insts : (ts rest : Tokens) (q : Place) (ns : List Inst) → IsSeries IsInst ts (sign q (codes ";") ∷ rest) ns → listed inst_at ts ≡ Some (ns, rest)
listed_insts ts rest q ns is = listed_again IsInst inst_at (λ vs. Unit {0}) inst_shorter (λ p us. tt) (λ p us. tt) (λ vs ws a one ends. inst_again vs ws a one) ts rest q ns is

-- an item that is read at its word
ports_again_at : (p : Place) (text : List ℕ) (d : DirWord) (us vs rest : Tokens) (q : Place) (s : PortShape) (ns : List Name) → dir_of text ≡ Some d → port_shape_from (record { place = p; word = d }) us ≡ Some (s, vs) → s.dir ≡ record { place = p; word = d }
    → listed name_at vs ≡ Some (ns, rest) → item_at (word p text ∷ us) ≡ Some (item s.dir.place (form.Ports s.dir s.kind s.shape.signed s.shape.range ns), rest)
unfolding item_at word_item ports_item
ports_again_at p text d us vs rest q s ns meant read same list =
    let place : s.dir.place ≡ p = ap (λ (d : Dir). d.place) same in
    rw (meant, read, list, place) refl

pub item_again : (ts rest : Tokens) (tree : Item) → IsItem ts rest tree → after_word (codes "else") rest ≡ None → item_at ts ≡ Some (tree, rest)
unfolding item_at word_item nets_by params_by vars_by process_by nets_item regs_item vars_item params_item assigns_item insts_item initial_item always_item dir_of net_of param_of
item_again ts rest tree (port_names q us s ns x y t) ends =
    let a = port_shape_again ts us s x (series_front IsName name_front us (sign q (codes ";") ∷ rest) ns y) in
    rw (a.4, t) (ports_again_at a.0 a.1 a.2 a.3 us rest q s ns a.5 a.6 a.7 (listed_names us rest q ns y))
item_again ts rest tree (nets p q text w us vs s ns x y meant spelled t) ends =
    rw (spelled, t, net_no_dir text w meant, meant, shape_again us vs s x (series_front IsNet net_front vs (sign q (codes ";") ∷ rest) ns y), listed_nets vs rest q ns y) refl
item_again ts rest tree (regs p q us vs s ns x y spelled t) ends =
    rw (spelled, t, shape_again us vs s x (series_front IsVar var_front vs (sign q (codes ";") ∷ rest) ns y), listed_vars vs rest q ns y) refl
item_again ts rest tree (integers p q us ns y spelled t) ends = rw (spelled, t, listed_vars us rest q ns y) refl
item_again ts rest tree (times p q us ns y spelled t) ends = rw (spelled, t, listed_vars us rest q ns y) refl
item_again ts rest tree (params p q text w us vs s ps x y meant spelled t) ends =
    rw (spelled, t, param_no_dir text w meant, param_no_net text w meant, meant, shape_again us vs s x (series_front IsParamPart param_part_front vs (sign q (codes ";") ∷ rest) ps y), listed_param_parts vs rest q ps y) refl
item_again ts rest tree (assigns p q us parts y spelled t) ends = rw (spelled, t, listed_assigns us rest q parts y) refl
item_again ts rest tree (insts p q text us vs o is x y spelled t) ends =
    rw (spelled, t, overrides_again us vs o x (name_no_sign (codes "#") vs (series_front IsInst inst_front vs (sign q (codes ";") ∷ rest) is y)), listed_insts vs rest q is y) refl
item_again ts rest tree (initial o n p us s is spelled t) ends = rw (spelled, t, stmt_again 200 o n us rest s is (λ _. ends)) refl
item_again ts rest tree (always o n p us s is spelled t) ends = rw (spelled, t, stmt_again 200 o n us rest s is (λ _. ends)) refl

-- a word that begins no item
pub record IsOther (text : List ℕ) : Type 0 where
  at_input : bytes_eq (codes "input") text ≡ false
  at_output : bytes_eq (codes "output") text ≡ false
  at_wire : bytes_eq (codes "wire") text ≡ false
  at_tri : bytes_eq (codes "tri") text ≡ false
  at_parameter : bytes_eq (codes "parameter") text ≡ false
  at_localparam : bytes_eq (codes "localparam") text ≡ false
  at_reg : bytes_eq (codes "reg") text ≡ false
  at_integer : bytes_eq (codes "integer") text ≡ false
  at_time : bytes_eq (codes "time") text ≡ false
  at_assign : bytes_eq (codes "assign") text ≡ false
  at_initial : bytes_eq (codes "initial") text ≡ false
  at_always : bytes_eq (codes "always") text ≡ false

pub else_other : IsOther (codes "else")
else_other = record { at_input = refl; at_output = refl; at_wire = refl; at_tri = refl; at_parameter = refl; at_localparam = refl; at_reg = refl; at_integer = refl; at_time = refl; at_assign = refl; at_initial = refl; at_always = refl }

pub end_other : IsOther (codes "endmodule")
end_other = record { at_input = refl; at_output = refl; at_wire = refl; at_tri = refl; at_parameter = refl; at_localparam = refl; at_reg = refl; at_integer = refl; at_time = refl; at_assign = refl; at_initial = refl; at_always = refl }

port_no_word : (text : List ℕ) (ts rest : Tokens) (s : PortShape) → IsOther text → IsPortShape ts rest s → after_word text ts ≡ None
port_no_word text ts rest whole o (untyped p own d us s is meant spelled t) = rw spelled (after_word_other text own p us (dir_no_word own text d meant o.at_input o.at_output))
port_no_word text ts rest whole o (typed p q own other d k us s is meant also spelled t) = rw spelled (after_word_other text own p (word q other ∷ us) (dir_no_word own text d meant o.at_input o.at_output))

pub item_no_word : (text : List ℕ) (ts rest : Tokens) (tree : Item) → IsOther text → IsItem ts rest tree → after_word text ts ≡ None
item_no_word text ts rest tree z (port_names q us s ns x y t) = port_no_word text ts us s z x
item_no_word text ts rest tree z (nets p q own w us vs s ns x y meant spelled t) = rw spelled (after_word_other text own p us (net_no_word own text w meant z.at_wire z.at_tri))
item_no_word text ts rest tree z (regs p q us vs s ns x y spelled t) = rw spelled (after_word_other text (codes "reg") p us z.at_reg)
item_no_word text ts rest tree z (integers p q us ns y spelled t) = rw spelled (after_word_other text (codes "integer") p us z.at_integer)
item_no_word text ts rest tree z (times p q us ns y spelled t) = rw spelled (after_word_other text (codes "time") p us z.at_time)
item_no_word text ts rest tree z (params p q own w us vs s ps x y meant spelled t) = rw spelled (after_word_other text own p us (param_no_word own text w meant z.at_parameter z.at_localparam))
item_no_word text ts rest tree z (assigns p q us parts y spelled t) = rw spelled (after_word_other text (codes "assign") p us z.at_assign)
item_no_word text ts rest tree z (insts p q own us vs o is x y spelled t) = name_no_word text ts (starts p own us spelled)
item_no_word text ts rest tree z (initial o n p us s is spelled t) = rw spelled (after_word_other text (codes "initial") p us z.at_initial)
item_no_word text ts rest tree z (always o n p us s is spelled t) = rw spelled (after_word_other text (codes "always") p us z.at_always)
