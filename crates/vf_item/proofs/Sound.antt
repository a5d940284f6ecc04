-- What the readers read is what the grammar says.
use Rattle.std.proofs.Common.{◌≡◌, ℕ, Bool, true, false, cond, ◌⊎◌, List, [], ◌∷◌, ◌++◌, length, Option, Some, None, refl, ap, subst, sym, ◌∙◌, inl, inr, codes}
use Rattle.std.specs.Str.{bytes_eq}
use Rattle.std.proofs.lemmas.Bool.{cases_Bool}
use Rattle.vf_base.specs.declared.names.Place.{Place}
use Rattle.vf_lexeme.specs.declared.kinds.TokenKind.{TokenKind}
use Rattle.vf_lexeme.specs.declared.kinds.TokenKind.TheVariants as token
use Rattle.vf_lex.specs.declared.token.Token.{Token}
use Rattle.vf_tree.specs.declared.words.Name.{Name}
use Rattle.vf_tree.specs.declared.expressions.TreeExpr.{TreeExpr}
use Rattle.vf_tree.specs.declared.modules.Range.{Range}
use Rattle.vf_tree.specs.declared.modules.DirWord.{DirWord}
use Rattle.vf_tree.specs.declared.modules.Dir.{Dir}
use Rattle.vf_tree.specs.declared.modules.NetOrReg.{NetOrReg}
use Rattle.vf_tree.specs.declared.modules.NetWord.{NetWord}
use Rattle.vf_tree.specs.declared.modules.ParamWord.{ParamWord}
use Rattle.vf_tree.specs.declared.modules.Pparam.{Pparam}
use Rattle.vf_tree.specs.declared.modules.Hport.{Hport}
use Rattle.vf_tree.specs.declared.modules.Aport.{Aport}
use Rattle.vf_tree.specs.declared.modules.AportForm.TheVariants as aports
use Rattle.vf_tree.specs.declared.modules.Ports.{Ports}
use Rattle.vf_tree.specs.declared.modules.PortsForm.TheVariants as port_forms
use Rattle.vf_tree.specs.declared.modules.Net.{Net}
use Rattle.vf_tree.specs.declared.modules.Var.{Var}
use Rattle.vf_tree.specs.declared.modules.VarForm.TheVariants as vars
use Rattle.vf_tree.specs.declared.modules.VarType.{VarType}
use Rattle.vf_tree.specs.declared.modules.VarType.TheVariants as types
use Rattle.vf_tree.specs.declared.modules.ParamPart.{ParamPart}
use Rattle.vf_tree.specs.declared.modules.AssignPart.{AssignPart}
use Rattle.vf_tree.specs.declared.modules.NamedConn.{NamedConn}
use Rattle.vf_tree.specs.declared.modules.Conns.{Conns}
use Rattle.vf_tree.specs.declared.modules.ConnsForm.TheVariants as conn_forms
use Rattle.vf_tree.specs.declared.modules.Inst.{Inst}
use Rattle.vf_tree.specs.declared.modules.Item.{Item}
use Rattle.vf_tree.specs.declared.modules.ItemForm.TheVariants as form
use Rattle.vf_expression.specs.Grammar.{Tokens, sign, word, name}
use Rattle.vf_expression.specs.Reading.{◌>>=◌, found_or, is_sign, after, opening_at, expr_at}
use Rattle.vf_expression.proofs.CallerLemmas.{bind_some, some_is, found_is, chosen, after_is, opening_is, expr_read}
use Rattle.vf_statement.specs.Reading.{is_word, after_word, name_at, assign_part_at, stmt_at}
use Rattle.vf_statement.proofs.CallerLemmas.{word_token, after_word_is, name_is, assign_part_is, stmt_is}
use Rattle.vf_item.specs.declared.shapes.Shape.{Shape}
use Rattle.vf_item.specs.declared.shapes.PortShape.{PortShape}
use Rattle.vf_item.specs.Rows.{Piece, Found, IsRow, row_more, IsAfterComma, after_comma, IsSeries, series, more_at, series_at}
use Rattle.vf_item.specs.Words.{dir_of, kind_of, net_of, param_of}
use Rattle.vf_item.specs.Grammar.{item, IsValue, value, IsName, IsRange, range, IsRangeOr, scalar, vector, IsShape, unsigned, signed, IsPortShape, untyped, typed, IsPparam, marked, unmarked, IsHport, port, IsAport, declared, repeated, IsPorts, names, declarations, IsPortList, no_list, empty_list, port_list, IsParams, no_params, param_list, IsNet, undriven, driven, IsVar, plain, set, IsParamPart, param_part, IsAssign, assign, IsSlot, empty, filled, IsNamedConn, conn, IsConns, lone, places, by_name, IsOverrides, no_overrides, overrides, IsInst, unconnected, connected, IsItem, port_names, nets, regs, integers, times, params, assigns, insts, initial, always}
use Rattle.vf_item.specs.Reading.{is_name, value_at, init_at, range_from, vector_from, range_or, shape_from, shape_at, dir_at, kind_at, port_shape_by, port_shape_from, port_shape_at, pparam_from, pparam_at, hport_at, declared_at, bare_at, aport_at, names_at, declarations_at, ports_at, some_ports, port_list_from, port_list_at, params_from, params_at, driven_from, net_from, net_at, set_from, plain_from, var_from, var_at, param_part_at, assign_at, ends_slot, filled_at, slot_at, named_conn_at, by_name_at, lone_from, places_from, by_place_from, by_place_at, conns_at, closed_conns, overrides_from, overrides_at, connected_from, inst_from, inst_at, listed, ports_item, nets_item, vars_item, regs_item, params_item, assigns_item, insts_item, initial_item, always_item, process_by, vars_by, params_by, nets_by, word_item, item_by, item_at}
use Rattle.vf_item.proofs.RowLemmas.{done, closed_by, more_read, series_read}
use Rattle.vf_item.proofs.WordLemmas.{dir_is, IsWordAt, kind_is_word}
use Rattle.vf_item.proofs.Fronts.{name_read, before_name}

-- a test that chose
branch : {A : Type 0} (b : Bool) (x y : Option A) (r : A) (R : Type 0) → cond b x y ≡ Some r → (b ≡ true → x ≡ Some r → R) → (y ≡ Some r → R) → R
branch true x y r R e f g = f refl e
branch false x y r R e f g = g e

-- ---- parts

value_is : (ts : Tokens) (x : TreeExpr × Tokens) → value_at ts ≡ Some x → IsValue ts x.1 x.0
unfolding value_at
value_is ts x e =
    let a = bind_some (expr_at 200 1 ts) (λ a. Some (a.0, a.2)) x e in
    done IsValue ts (a.0.0, a.0.2) x a.2 (value a.0.1 (expr_read 200 1 ts a.0 a.1))

init_is : (ts : Tokens) (x : TreeExpr × Tokens) → init_at ts ≡ Some x → (q : Place) × (us : Tokens) × (ts ≡ sign q (codes "=") ∷ us) × IsValue us x.1 x.0
unfolding init_at
init_is ts x e =
    let u = bind_some (after (codes "=") ts) (λ us. value_at us) x e in
    let q = after_is (codes "=") ts u.0 u.1 in
    (q.0, u.0, q.1, value_is u.0 x u.2)

range_is : (p : Place) (ts : Tokens) (x : Range × Tokens) → range_from p ts ≡ Some x → IsRange (sign p (codes "[") ∷ ts) x.1 x.0
unfolding range_from
range_is p ts x e =
    let a = bind_some (value_at ts) (λ a. after (codes ":") a.1 >>= λ us. value_at us >>= λ b. after (codes "]") b.1 >>= λ rest. Some (record { place = p; left = a.0; right = b.0 }, rest)) x e in
    let u = bind_some (after (codes ":") a.0.1) (λ us. value_at us >>= λ b. after (codes "]") b.1 >>= λ rest. Some (record { place = p; left = a.0.0; right = b.0 }, rest)) x a.2 in
    let b = bind_some (value_at u.0) (λ b. after (codes "]") b.1 >>= λ rest. Some (record { place = p; left = a.0.0; right = b.0 }, rest)) x u.2 in
    let r = bind_some (after (codes "]") b.0.1) (λ rest. Some (record { place = p; left = a.0.0; right = b.0.0 }, rest)) x b.2 in
    let first = closed_by IsValue ts a.0 (codes ":") u.0 (value_is ts a.0 a.1) u.1 in
    let second = closed_by IsValue u.0 b.0 (codes "]") r.0 (value_is u.0 b.0 b.1) r.1 in
    done IsRange (sign p (codes "[") ∷ ts) (record { place = p; left = a.0.0; right = b.0.0 }, r.0) x r.2 (range p first.0 second.0 ts u.0 a.0.0 b.0.0 first.1 second.1 refl refl)

range_or_is : (ts : Tokens) (x : Option Range × Tokens) → range_or ts ≡ Some x → IsRangeOr ts x.1 x.0
unfolding range_or vector_from
range_or_is ts x e =
    elim (found_is (opening_at ts) (λ o. vector_from o.0 o.1) (Some (None, ts)) x e) [
      | inl o ↦
          let r = bind_some (range_from o.0.0 o.0.1) (λ r. Some (Some r.0, r.1)) x o.2 in
          let is : IsRange ts r.0.1 r.0.0 = subst (λ (us : Tokens). IsRange us r.0.1 r.0.0) (sym (opening_is ts o.0 o.1)) (range_is o.0.0 o.0.1 r.0 r.1) in
          done IsRangeOr ts (Some r.0.0, r.0.1) x r.2 (vector r.0.0 is refl)
      | inr o ↦ done IsRangeOr ts (None, ts) x o.1 (scalar refl refl)
    ]

shape_is : (ts : Tokens) (x : Shape × Tokens) → shape_at ts ≡ Some x → IsShape ts x.1 x.0
unfolding shape_at shape_from
shape_is ts x e =
    elim (found_is (after_word (codes "signed") ts) (λ us. shape_from true us) (shape_from false ts) x e) [
      | inl u ↦
          let r = bind_some (range_or u.0) (λ r. Some (record { signed = true; range = r.0 }, r.1)) x u.2 in
          let q = after_word_is (codes "signed") ts u.0 u.1 in
          done IsShape ts (record { signed = true; range = r.0.0 }, r.0.1) x r.2 (signed q.0 u.0 r.0.0 (range_or_is u.0 r.0 r.1) q.1 refl)
      | inr u ↦
          let r = bind_some (range_or ts) (λ r. Some (record { signed = false; range = r.0 }, r.1)) x u.1 in
          done IsShape ts (record { signed = false; range = r.0.0 }, r.0.1) x r.2 (unsigned r.0.0 (range_or_is ts r.0 r.1) refl)
    ]

-- what a port is, after its direction
port_shape_is : (p : Place) (text : List ℕ) (d : DirWord) (ts : Tokens) (x : PortShape × Tokens) → dir_of text ≡ Some d → port_shape_from (record { place = p; word = d }) ts ≡ Some x → IsPortShape (word p text ∷ ts) x.1 x.0 × (x.0.dir ≡ record { place = p; word = d })
unfolding port_shape_from port_shape_by
port_shape_is p text d ts x meant e =
    let R : PortShape × Tokens → Type 0 = λ y. IsPortShape (word p text ∷ ts) y.1 y.0 × (y.0.dir ≡ record { place = p; word = d }) in
    elim (found_is (kind_at ts) (λ k. port_shape_by (record { place = p; word = d }) (Some k.0) k.1) (port_shape_by (record { place = p; word = d }) None ts) x e) [
      | inl k ↦
          let s = bind_some (shape_at k.0.1) (λ s. Some (record { dir = record { place = p; word = d }; kind = Some k.0.0; shape = s.0 }, s.1)) x k.2 in
          let w = kind_is_word ts k.0 k.1 in
          subst R (some_is (record { dir = record { place = p; word = d }; kind = Some k.0.0; shape = s.0.0 }, s.0.1) x s.2)
          (typed p w.at text w.text d k.0.0 k.0.1 s.0.0 (shape_is k.0.1 s.0 s.1) meant w.meant (ap (λ (us : Tokens). word p text ∷ us) w.spelled) refl, refl)
      | inr k ↦
          let s = bind_some (shape_at ts) (λ s. Some (record { dir = record { place = p; word = d }; kind = None; shape = s.0 }, s.1)) x k.1 in
          subst R (some_is (record { dir = record { place = p; word = d }; kind = None; shape = s.0.0 }, s.0.1) x s.2) (untyped p text d ts s.0.0 (shape_is ts s.0 s.1) meant refl refl, refl)
    ]

port_shape_at_is : (ts : Tokens) (x : PortShape × Tokens) → port_shape_at ts ≡ Some x → IsPortShape ts x.1 x.0
unfolding port_shape_at
port_shape_at_is ts x e =
    let d = bind_some (dir_at ts) (λ d. port_shape_from d.0 d.1) x e in
    let w = dir_is ts d.0 d.1 in
    subst (λ (us : Tokens). IsPortShape us x.1 x.0) (sym w.1) (port_shape_is d.0.0.place w.0 d.0.0.word d.0.1 x w.2 d.2).0

-- ---- headers of modules

-- a parameter from its shape on
record IsParamRest (p : Place) (m : Bool) (ts : Tokens) (x : Pparam × Tokens) : Type 0 where
  at : Place
  equal : Place
  text : List ℕ
  following : Tokens
  shape : Shape
  tree : TreeExpr
  shaped : IsShape ts (name at text ∷ sign equal (codes "=") ∷ following) shape
  valued : IsValue following x.1 tree
  made : x.0 ≡ record { place = p; parameter = m; signed = shape.signed; range = shape.range; name = record { text = text; place = at }; value = tree }

pparam_from_is : (p : Place) (m : Bool) (ts : Tokens) (x : Pparam × Tokens) → pparam_from p m ts ≡ Some x → IsParamRest p m ts x
unfolding pparam_from
pparam_from_is p m ts x e =
    let s = bind_some (shape_at ts) (λ s. name_at s.1 >>= λ n. init_at n.1 >>= λ v. Some (record { place = p; parameter = m; signed = s.0.signed; range = s.0.range; name = n.0; value = v.0 }, v.1)) x e in
    let n = bind_some (name_at s.0.1) (λ n. init_at n.1 >>= λ v. Some (record { place = p; parameter = m; signed = s.0.0.signed; range = s.0.0.range; name = n.0; value = v.0 }, v.1)) x s.2 in
    let v = bind_some (init_at n.0.1) (λ v. Some (record { place = p; parameter = m; signed = s.0.0.signed; range = s.0.0.range; name = n.0.0; value = v.0 }, v.1)) x n.2 in
    let i = init_is n.0.1 v.0 v.1 in
    let front : s.0.1 ≡ name n.0.0.place n.0.0.text ∷ sign i.0 (codes "=") ∷ i.1 = name_is s.0.1 n.0 n.1 ∙ ap (λ (us : Tokens). name n.0.0.place n.0.0.text ∷ us) i.2 in
    subst (λ (y : Pparam × Tokens). IsParamRest p m ts y) (some_is (record { place = p; parameter = m; signed = s.0.0.signed; range = s.0.0.range; name = n.0.0; value = v.0.0 }, v.0.1) x v.2)
    (record {
      at = n.0.0.place;
      equal = i.0;
      text = n.0.0.text;
      following = i.1;
      shape = s.0.0;
      tree = v.0.0;
      shaped = subst (λ (us : Tokens). IsShape ts us s.0.0) front (shape_is ts s.0 s.1);
      valued = i.3;
      made = refl;
    })

pub pparam_is : (ts : Tokens) (x : Pparam × Tokens) → pparam_at ts ≡ Some x → IsPparam ts x.1 x.0
unfolding pparam_at
pparam_is [] x e = absurd cc
pparam_is (t ∷ ts) x e =
    branch (is_word (codes "parameter") t.kind) _ _ x (IsPparam (t ∷ ts) x.1 x.0) e (λ same a.
    let r = pparam_from_is t.place true ts x a in
    marked t.place r.at r.equal r.text ts r.following r.shape r.tree r.shaped r.valued (ap (λ (u : Token). u ∷ ts) (word_token (codes "parameter") t same)) r.made) (λ a.
    let r = pparam_from_is t.place false (t ∷ ts) x a in
    unmarked t r.at r.equal r.text ts r.following r.shape r.tree r.shaped r.valued refl r.made)

hport_is : (ts : Tokens) (x : Hport × Tokens) → hport_at ts ≡ Some x → IsHport ts x.1 x.0
unfolding hport_at
hport_is ts x e =
    let s = bind_some (port_shape_at ts) (λ s. name_at s.1 >>= λ n. Some (record { place = s.0.dir.place; dir = s.0.dir; word = s.0.kind; signed = s.0.shape.signed; range = s.0.shape.range; name = n.0 }, n.1)) x e in
    let n = bind_some (name_at s.0.1) (λ n. Some (record { place = s.0.0.dir.place; dir = s.0.0.dir; word = s.0.0.kind; signed = s.0.0.shape.signed; range = s.0.0.shape.range; name = n.0 }, n.1)) x s.2 in
    let is = before_name IsPortShape ts s.0.1 s.0.0 n.0 (port_shape_at_is ts s.0 s.1) n.1 in
    done IsHport ts (record { place = s.0.0.dir.place; dir = s.0.0.dir; word = s.0.0.kind; signed = s.0.0.shape.signed; range = s.0.0.shape.range; name = n.0.0 }, n.0.1) x n.2 (port n.0.0.place n.0.0.text s.0.0 is refl)

aport_is : (ts : Tokens) (x : Aport × Tokens) → aport_at ts ≡ Some x → IsAport ts x.1 x.0
unfolding aport_at bare_at declared_at
aport_is [] x e = absurd cc
aport_is (t ∷ ts) x e =
    branch (is_name t.kind) _ _ x (IsAport (t ∷ ts) x.1 x.0) e (λ same a.
    let n = bind_some (name_at (t ∷ ts)) (λ n. Some (record { place = n.0.place; form = aports.Name n.0 }, n.1)) x a in
    done IsAport (t ∷ ts) (record { place = n.0.0.place; form = aports.Name n.0.0 }, n.0.1) x n.2 (repeated n.0.0 (name_read (t ∷ ts) n.0 n.1) refl)) (λ a.
    let h = bind_some (hport_at (t ∷ ts)) (λ h. Some (record { place = h.0.place; form = aports.Declared h.0 }, h.1)) x a in
    done IsAport (t ∷ ts) (record { place = h.0.0.place; form = aports.Declared h.0.0 }, h.0.1) x h.2 (declared h.0.0 (hport_is (t ∷ ts) h.0 h.1) refl))

ports_is : (ts : Tokens) (x : Ports × Tokens) → ports_at ts ≡ Some x → IsPorts ts x.1 x.0
unfolding ports_at names_at declarations_at
ports_is [] x e = absurd cc
ports_is (t ∷ ts) x e =
    branch (is_name t.kind) _ _ x (IsPorts (t ∷ ts) x.1 x.0) e (λ same a.
    let l = bind_some (series_at name_at (t ∷ ts)) (λ l. Some (record { place = t.place; form = port_forms.Names l.0 }, l.1)) x a in
    done IsPorts (t ∷ ts) (record { place = t.place; form = port_forms.Names l.0.0 }, l.0.1) x l.2 (names t ts l.0.0 (series_read IsName name_at name_read (t ∷ ts) l.0 l.1) refl refl)) (λ a.
    let h = bind_some (hport_at (t ∷ ts)) (λ h. more_at aport_at [] h.1 >>= λ l. Some (record { place = h.0.place; form = port_forms.Declared h.0 l.0 }, l.1)) x a in
    let l = bind_some (more_at aport_at [] h.0.1) (λ l. Some (record { place = h.0.0.place; form = port_forms.Declared h.0.0 l.0 }, l.1)) x h.2 in
    let m = more_read IsAport aport_at aport_is [] h.0.1 l.0 l.1 in
    let row : IsRow (IsAfterComma IsAport) h.0.1 l.0.1 l.0.0 = subst (λ (ps : List Aport). IsRow (IsAfterComma IsAport) h.0.1 l.0.1 ps) (sym m.joined) m.is in
    done IsPorts (t ∷ ts) (record { place = h.0.0.place; form = port_forms.Declared h.0.0 l.0.0 }, l.0.1) x l.2 (declarations h.0.1 h.0.0 l.0.0 (hport_is (t ∷ ts) h.0 h.1) row refl))

pub port_list_is : (ts : Tokens) (x : Option (Option Ports) × Tokens) → port_list_at ts ≡ Some x → IsPortList ts x.1 x.0
unfolding port_list_at port_list_from some_ports
port_list_is ts x e =
    elim (found_is (after (codes "(") ts) (λ us. port_list_from us) (Some (None, ts)) x e) [
      | inr o ↦ done IsPortList ts (None, ts) x o.1 (no_list refl refl)
      | inl o ↦
          let p = after_is (codes "(") ts o.0 o.1 in
          elim (found_is (after (codes ")") o.0) (λ rest. Some (Some None, rest)) (some_ports o.0) x o.2) [
            | inl r ↦
                let q = after_is (codes ")") o.0 r.0 r.1 in
                done IsPortList ts (Some None, r.0) x r.2 (empty_list p.0 q.0 (p.1 ∙ ap (λ (us : Tokens). sign p.0 (codes "(") ∷ us) q.1) refl)
            | inr r ↦
                let l = bind_some (ports_at o.0) (λ l. after (codes ")") l.1 >>= λ rest. Some (Some (Some l.0), rest)) x r.1 in
                let b = bind_some (after (codes ")") l.0.1) (λ rest. Some (Some (Some l.0.0), rest)) x l.2 in
                let is = closed_by IsPorts o.0 l.0 (codes ")") b.0 (ports_is o.0 l.0 l.1) b.1 in
                done IsPortList ts (Some (Some l.0.0), b.0) x b.2 (port_list p.0 is.0 o.0 l.0.0 is.1 p.1 refl)
          ]
    ]

pub params_is : (ts : Tokens) (x : Option (List Pparam) × Tokens) → params_at ts ≡ Some x → IsParams ts x.1 x.0
unfolding params_at params_from
params_is ts x e =
    elim (found_is (after (codes "#") ts) (λ us. params_from us) (Some (None, ts)) x e) [
      | inr o ↦ done IsParams ts (None, ts) x o.1 (no_params refl refl)
      | inl o ↦
          let p = after_is (codes "#") ts o.0 o.1 in
          let u = bind_some (after (codes "(") o.0) (λ us. series_at pparam_at us >>= λ l. after (codes ")") l.1 >>= λ rest. Some (Some l.0, rest)) x o.2 in
          let l = bind_some (series_at pparam_at u.0) (λ l. after (codes ")") l.1 >>= λ rest. Some (Some l.0, rest)) x u.2 in
          let b = bind_some (after (codes ")") l.0.1) (λ rest. Some (Some l.0.0, rest)) x l.2 in
          let q = after_is (codes "(") o.0 u.0 u.1 in
          let is = closed_by (IsSeries IsPparam) u.0 l.0 (codes ")") b.0 (series_read IsPparam pparam_at pparam_is u.0 l.0 l.1) b.1 in
          done IsParams ts (Some l.0.0, b.0) x b.2 (param_list p.0 q.0 is.0 u.0 l.0.0 is.1 (p.1 ∙ ap (λ (us : Tokens). sign p.0 (codes "#") ∷ us) q.1) refl)
    ]

-- ---- parts of items

net_from_is : (n : Name) (ts : Tokens) (x : Net × Tokens) → net_from n ts ≡ Some x → IsNet (name n.place n.text ∷ ts) x.1 x.0
unfolding net_from driven_from
net_from_is n ts x e =
    elim (found_is (after (codes "=") ts) (λ us. driven_from n us) (Some (record { place = n.place; name = n; value = None }, ts)) x e) [
      | inl u ↦
          let v = bind_some (value_at u.0) (λ v. Some (record { place = n.place; name = n; value = Some v.0 }, v.1)) x u.2 in
          let q = after_is (codes "=") ts u.0 u.1 in
          done IsNet (name n.place n.text ∷ ts) (record { place = n.place; name = n; value = Some v.0.0 }, v.0.1) x v.2
          (driven n.place q.0 n.text u.0 v.0.0 (value_is u.0 v.0 v.1) (ap (λ (us : Tokens). name n.place n.text ∷ us) q.1) refl)
      | inr u ↦ done IsNet (name n.place n.text ∷ ts) (record { place = n.place; name = n; value = None }, ts) x u.1 (undriven n.place n.text refl refl)
    ]

net_is : (ts : Tokens) (x : Net × Tokens) → net_at ts ≡ Some x → IsNet ts x.1 x.0
unfolding net_at
net_is ts x e =
    let n = bind_some (name_at ts) (λ n. net_from n.0 n.1) x e in
    subst (λ (us : Tokens). IsNet us x.1 x.0) (sym (name_is ts n.0 n.1)) (net_from_is n.0.0 n.0.1 x n.2)

var_from_is : (n : Name) (ts : Tokens) (x : Var × Tokens) → var_from n ts ≡ Some x → IsVar (name n.place n.text ∷ ts) x.1 x.0
unfolding var_from set_from plain_from
var_from_is n ts x e =
    elim (found_is (after (codes "=") ts) (λ us. set_from n us) (plain_from n ts) x e) [
      | inl u ↦
          let v = bind_some (value_at u.0) (λ v. Some (record { place = n.place; form = vars.Set n v.0 }, v.1)) x u.2 in
          let q = after_is (codes "=") ts u.0 u.1 in
          done IsVar (name n.place n.text ∷ ts) (record { place = n.place; form = vars.Set n v.0.0 }, v.0.1) x v.2
          (set n.place q.0 n.text u.0 v.0.0 (value_is u.0 v.0 v.1) (ap (λ (us : Tokens). name n.place n.text ∷ us) q.1) refl)
      | inr u ↦
          let r = bind_some (range_or ts) (λ r. Some (record { place = n.place; form = vars.Plain n r.0 }, r.1)) x u.1 in
          done IsVar (name n.place n.text ∷ ts) (record { place = n.place; form = vars.Plain n r.0.0 }, r.0.1) x r.2 (plain n.place n.text ts r.0.0 (range_or_is ts r.0 r.1) refl refl)
    ]

var_is : (ts : Tokens) (x : Var × Tokens) → var_at ts ≡ Some x → IsVar ts x.1 x.0
unfolding var_at
var_is ts x e =
    let n = bind_some (name_at ts) (λ n. var_from n.0 n.1) x e in
    subst (λ (us : Tokens). IsVar us x.1 x.0) (sym (name_is ts n.0 n.1)) (var_from_is n.0.0 n.0.1 x n.2)

param_part_is : (ts : Tokens) (x : ParamPart × Tokens) → param_part_at ts ≡ Some x → IsParamPart ts x.1 x.0
unfolding param_part_at
param_part_is ts x e =
    let n = bind_some (name_at ts) (λ n. init_at n.1 >>= λ v. Some (record { name = n.0; value = v.0 }, v.1)) x e in
    let v = bind_some (init_at n.0.1) (λ v. Some (record { name = n.0.0; value = v.0 }, v.1)) x n.2 in
    let i = init_is n.0.1 v.0 v.1 in
    let front : ts ≡ name n.0.0.place n.0.0.text ∷ sign i.0 (codes "=") ∷ i.1 = name_is ts n.0 n.1 ∙ ap (λ (us : Tokens). name n.0.0.place n.0.0.text ∷ us) i.2 in
    done IsParamPart ts (record { name = n.0.0; value = v.0.0 }, v.0.1) x v.2 (param_part n.0.0.place i.0 n.0.0.text i.1 v.0.0 i.3 front refl)

assign_is : (ts : Tokens) (x : AssignPart × Tokens) → assign_at ts ≡ Some x → IsAssign ts x.1 x.0
unfolding assign_at
assign_is ts x e =
    let a = bind_some (assign_part_at 200 ts) (λ a. Some (a.0, a.2)) x e in
    done IsAssign ts (a.0.0, a.0.2) x a.2 (assign a.0.1 (assign_part_is 200 ts a.0 a.1))

slot_is : (ts : Tokens) (x : Option TreeExpr × Tokens) → slot_at ts ≡ Some x → IsSlot ts x.1 x.0
unfolding slot_at filled_at
slot_is [] x e = absurd cc
slot_is (t ∷ ts) x e =
    branch (ends_slot t.kind) _ _ x (IsSlot (t ∷ ts) x.1 x.0) e (λ same a. done IsSlot (t ∷ ts) (None, t ∷ ts) x a (empty refl refl)) (λ a.
    let v = bind_some (value_at (t ∷ ts)) (λ v. Some (Some v.0, v.1)) x a in
    done IsSlot (t ∷ ts) (Some v.0.0, v.0.1) x v.2 (filled v.0.0 (value_is (t ∷ ts) v.0 v.1) refl))

named_conn_is : (ts : Tokens) (x : NamedConn × Tokens) → named_conn_at ts ≡ Some x → IsNamedConn ts x.1 x.0
unfolding named_conn_at
named_conn_is ts x e =
    let u = bind_some (after (codes ".") ts) (λ us. name_at us >>= λ n. after (codes "(") n.1 >>= λ vs. slot_at vs >>= λ s. after (codes ")") s.1 >>= λ rest. Some (record { name = n.0; value = s.0 }, rest)) x e in
    let n = bind_some (name_at u.0) (λ n. after (codes "(") n.1 >>= λ vs. slot_at vs >>= λ s. after (codes ")") s.1 >>= λ rest. Some (record { name = n.0; value = s.0 }, rest)) x u.2 in
    let v = bind_some (after (codes "(") n.0.1) (λ vs. slot_at vs >>= λ s. after (codes ")") s.1 >>= λ rest. Some (record { name = n.0.0; value = s.0 }, rest)) x n.2 in
    let s = bind_some (slot_at v.0) (λ s. after (codes ")") s.1 >>= λ rest. Some (record { name = n.0.0; value = s.0 }, rest)) x v.2 in
    let r = bind_some (after (codes ")") s.0.1) (λ rest. Some (record { name = n.0.0; value = s.0.0 }, rest)) x s.2 in
    let p = after_is (codes ".") ts u.0 u.1 in
    let q = after_is (codes "(") n.0.1 v.0 v.1 in
    let following : u.0 ≡ name n.0.0.place n.0.0.text ∷ sign q.0 (codes "(") ∷ v.0 = name_is u.0 n.0 n.1 ∙ ap (λ (us : Tokens). name n.0.0.place n.0.0.text ∷ us) q.1 in
    let is = closed_by IsSlot v.0 s.0 (codes ")") r.0 (slot_is v.0 s.0 s.1) r.1 in
    done IsNamedConn ts (record { name = n.0.0; value = s.0.0 }, r.0) x r.2 (conn p.0 n.0.0.place q.0 is.0 n.0.0.text v.0 s.0.0 is.1 (p.1 ∙ ap (λ (us : Tokens). sign p.0 (codes ".") ∷ us) following) refl)

lone_is : (p : Place) (o : Option TreeExpr) (ts us : Tokens) (x : Conns × Tokens) → IsSlot ts us o → lone_from p o us ≡ Some x → (e : TreeExpr) × IsValue ts x.1 e × (x.0 ≡ record { place = p; form = conn_forms.One e })
lone_is p None ts us x is h = absurd cc
lone_is p (Some e) ts us x (empty spelled t) h = absurd cc
lone_is p (Some e) ts us x (filled f is t) h =
    let same : (record { place = p; form = conn_forms.One e }, us) ≡ x = some_is _ x h in
    let tree : f ≡ e = sym (some_is e f t) in
    (e, subst (λ (y : Conns × Tokens). IsValue ts y.1 e) same (subst (λ (g : TreeExpr). IsValue ts us g) tree is), ap (λ (y : Conns × Tokens). y.0) (sym same))

by_place_is : (t : Token) (ts : Tokens) (x : Conns × Tokens) → by_place_at t.place (t ∷ ts) ≡ Some x → IsConns (t ∷ ts) x.1 x.0
unfolding by_place_at by_place_from places_from
by_place_is t ts x e =
    let s = bind_some (slot_at (t ∷ ts)) (λ s. found_or (after (codes ",") s.1) (λ us. places_from t.place s.0 us) (lone_from t.place s.0 s.1)) x e in
    let first = slot_is (t ∷ ts) s.0 s.1 in
    elim (found_is (after (codes ",") s.0.1) (λ us. places_from t.place s.0.0 us) (lone_from t.place s.0.0 s.0.1) x s.2) [
      | inl u ↦
          let b = bind_some (slot_at u.0) (λ b. more_at slot_at (s.0.0 ∷ b.0 ∷ []) b.1 >>= λ l. Some (record { place = t.place; form = conn_forms.Places l.0 }, l.1)) x u.2 in
          let l = bind_some (more_at slot_at (s.0.0 ∷ b.0.0 ∷ []) b.0.1) (λ l. Some (record { place = t.place; form = conn_forms.Places l.0 }, l.1)) x b.2 in
          let q = after_is (codes ",") s.0.1 u.0 u.1 in
          let m = more_read IsSlot slot_at slot_is (s.0.0 ∷ b.0.0 ∷ []) b.0.1 l.0 l.1 in
          done IsConns (t ∷ ts) (record { place = t.place; form = conn_forms.Places l.0.0 }, l.0.1) x l.2
          (places t ts s.0.1 b.0.1 s.0.0 b.0.0 m.others first (after_comma q.0 u.0 (slot_is u.0 b.0 b.1) q.1) m.is refl (ap (λ (l : List (Option TreeExpr)). record { place = t.place; form = conn_forms.Places l }) m.joined))
      | inr u ↦
          let o = lone_is t.place s.0.0 (t ∷ ts) s.0.1 x first u.1 in
          lone t ts o.0 o.1 refl o.2
    ]

conns_is : (ts : Tokens) (x : Conns × Tokens) → conns_at ts ≡ Some x → IsConns ts x.1 x.0
unfolding conns_at by_name_at
conns_is [] x e = absurd cc
conns_is (t ∷ ts) x e =
    branch (is_sign (codes ".") t.kind) _ _ x (IsConns (t ∷ ts) x.1 x.0) e (λ same a.
    let l = bind_some (series_at named_conn_at (t ∷ ts)) (λ l. Some (record { place = t.place; form = conn_forms.Names l.0 }, l.1)) x a in
    done IsConns (t ∷ ts) (record { place = t.place; form = conn_forms.Names l.0.0 }, l.0.1) x l.2 (by_name t ts l.0.0 (series_read IsNamedConn named_conn_at named_conn_is (t ∷ ts) l.0 l.1) refl refl)) (λ a. by_place_is t ts x a)

closed_conns_is : (ts : Tokens) (x : Conns × Tokens) → closed_conns ts ≡ Some x → (q : Place) × IsConns ts (sign q (codes ")") ∷ x.1) x.0
unfolding closed_conns
closed_conns_is ts x e =
    let c = bind_some (conns_at ts) (λ c. after (codes ")") c.1 >>= λ rest. Some (c.0, rest)) x e in
    let r = bind_some (after (codes ")") c.0.1) (λ rest. Some (c.0.0, rest)) x c.2 in
    let is = closed_by IsConns ts c.0 (codes ")") r.0 (conns_is ts c.0 c.1) r.1 in
    subst (λ (y : Conns × Tokens). (q : Place) × IsConns ts (sign q (codes ")") ∷ y.1) y.0) (some_is (c.0.0, r.0) x r.2) is

overrides_is : (ts : Tokens) (x : Option Conns × Tokens) → overrides_at ts ≡ Some x → IsOverrides ts x.1 x.0
unfolding overrides_at overrides_from
overrides_is ts x e =
    elim (found_is (after (codes "#") ts) (λ us. overrides_from us) (Some (None, ts)) x e) [
      | inr o ↦ done IsOverrides ts (None, ts) x o.1 (no_overrides refl refl)
      | inl o ↦
          let u = bind_some (after (codes "(") o.0) (λ us. closed_conns us >>= λ c. Some (Some c.0, c.1)) x o.2 in
          let c = bind_some (closed_conns u.0) (λ c. Some (Some c.0, c.1)) x u.2 in
          let p = after_is (codes "#") ts o.0 o.1 in
          let q = after_is (codes "(") o.0 u.0 u.1 in
          let is = closed_conns_is u.0 c.0 c.1 in
          done IsOverrides ts (Some c.0.0, c.0.1) x c.2 (overrides p.0 q.0 is.0 u.0 c.0.0 is.1 (p.1 ∙ ap (λ (us : Tokens). sign p.0 (codes "#") ∷ us) q.1) refl)
    ]

inst_is : (ts : Tokens) (x : Inst × Tokens) → inst_at ts ≡ Some x → IsInst ts x.1 x.0
unfolding inst_at inst_from connected_from
inst_is ts x e =
    let n = bind_some (name_at ts) (λ n. after (codes "(") n.1 >>= λ us. inst_from n.0 us) x e in
    let u = bind_some (after (codes "(") n.0.1) (λ us. inst_from n.0.0 us) x n.2 in
    let q = after_is (codes "(") n.0.1 u.0 u.1 in
    let front : ts ≡ name n.0.0.place n.0.0.text ∷ sign q.0 (codes "(") ∷ u.0 = name_is ts n.0 n.1 ∙ ap (λ (us : Tokens). name n.0.0.place n.0.0.text ∷ us) q.1 in
    elim (found_is (after (codes ")") u.0) (λ rest. Some (record { place = n.0.0.place; name = n.0.0; conns = None }, rest)) (connected_from n.0.0 u.0) x u.2) [
      | inl r ↦
          let b = after_is (codes ")") u.0 r.0 r.1 in
          done IsInst ts (record { place = n.0.0.place; name = n.0.0; conns = None }, r.0) x r.2
          (unconnected n.0.0.place q.0 b.0 n.0.0.text (front ∙ ap (λ (us : Tokens). name n.0.0.place n.0.0.text ∷ sign q.0 (codes "(") ∷ us) b.1) refl)
      | inr r ↦
          let c = bind_some (closed_conns u.0) (λ c. Some (record { place = n.0.0.place; name = n.0.0; conns = Some c.0 }, c.1)) x r.1 in
          let is = closed_conns_is u.0 c.0 c.1 in
          done IsInst ts (record { place = n.0.0.place; name = n.0.0; conns = Some c.0.0 }, c.0.1) x c.2 (connected n.0.0.place q.0 is.0 n.0.0.text u.0 c.0.0 is.1 front refl)
    ]

-- ---- items

listed_is : {A : Type 0} (One : Piece A) (one : Tokens → Found A) → ((ts : Tokens) (x : A × Tokens) → one ts ≡ Some x → One ts x.1 x.0) → (ts : Tokens) (x : List A × Tokens) → listed one ts ≡ Some x
    → (q : Place) × IsSeries One ts (sign q (codes ";") ∷ x.1) x.0
unfolding listed
listed_is {A = A} One one sound ts x e =
    let l = bind_some (series_at one ts) (λ l. after (codes ";") l.1 >>= λ rest. Some (l.0, rest)) x e in
    let r = bind_some (after (codes ";") l.0.1) (λ rest. Some (l.0.0, rest)) x l.2 in
    let is = closed_by (IsSeries One) ts l.0 (codes ";") r.0 (series_read One one sound ts l.0 l.1) r.1 in
    subst (λ (y : List A × Tokens). (q : Place) × IsSeries One ts (sign q (codes ";") ∷ y.1) y.0) (some_is (l.0.0, r.0) x r.2) is

ports_item_is : (p : Place) (text : List ℕ) (d : DirWord) (ts : Tokens) (x : Item × Tokens) → dir_of text ≡ Some d → ports_item (record { place = p; word = d }) ts ≡ Some x → IsItem (word p text ∷ ts) x.1 x.0
unfolding ports_item
ports_item_is p text d ts x meant e =
    let s = bind_some (port_shape_from (record { place = p; word = d }) ts) (λ s. listed name_at s.1 >>= λ l. Some (item p (form.Ports s.0.dir s.0.kind s.0.shape.signed s.0.shape.range l.0), l.1)) x e in
    let l = bind_some (listed name_at s.0.1) (λ l. Some (item p (form.Ports s.0.0.dir s.0.0.kind s.0.0.shape.signed s.0.0.shape.range l.0), l.1)) x s.2 in
    let is = port_shape_is p text d ts s.0 meant s.1 in
    let ns = listed_is IsName name_at name_read s.0.1 l.0 l.1 in
    let place : p ≡ s.0.0.dir.place = ap (λ (d : Dir). d.place) (sym is.1) in
    done IsItem (word p text ∷ ts) (item p (form.Ports s.0.0.dir s.0.0.kind s.0.0.shape.signed s.0.0.shape.range l.0.0), l.0.1) x l.2
    (port_names ns.0 s.0.1 s.0.0 l.0.0 is.0 ns.1 (ap (λ (q : Place). item q (form.Ports s.0.0.dir s.0.0.kind s.0.0.shape.signed s.0.0.shape.range l.0.0)) place))

nets_item_is : (p : Place) (text : List ℕ) (w : NetWord) (ts : Tokens) (x : Item × Tokens) → net_of text ≡ Some w → nets_item p w ts ≡ Some x → IsItem (word p text ∷ ts) x.1 x.0
unfolding nets_item
nets_item_is p text w ts x meant e =
    let s = bind_some (shape_at ts) (λ s. listed net_at s.1 >>= λ l. Some (item p (form.Nets w s.0.signed s.0.range l.0), l.1)) x e in
    let l = bind_some (listed net_at s.0.1) (λ l. Some (item p (form.Nets w s.0.0.signed s.0.0.range l.0), l.1)) x s.2 in
    let ns = listed_is IsNet net_at net_is s.0.1 l.0 l.1 in
    done IsItem (word p text ∷ ts) (item p (form.Nets w s.0.0.signed s.0.0.range l.0.0), l.0.1) x l.2 (nets p ns.0 text w ts s.0.1 s.0.0 l.0.0 (shape_is ts s.0 s.1) ns.1 meant refl refl)

-- variables of a type
record IsVars (p : Place) (v : VarType) (ts : Tokens) (x : Item × Tokens) : Type 0 where
  at : Place
  list : List Var
  is : IsSeries IsVar ts (sign at (codes ";") ∷ x.1) list
  made : x.0 ≡ item p (form.Vars v list)

vars_item_is : (p : Place) (v : VarType) (ts : Tokens) (x : Item × Tokens) → vars_item p v ts ≡ Some x → IsVars p v ts x
unfolding vars_item
vars_item_is p v ts x e =
    let l = bind_some (listed var_at ts) (λ l. Some (item p (form.Vars v l.0), l.1)) x e in
    let ns = listed_is IsVar var_at var_is ts l.0 l.1 in
    subst (λ (y : Item × Tokens). IsVars p v ts y) (some_is (item p (form.Vars v l.0.0), l.0.1) x l.2) (record { at = ns.0; list = l.0.0; is = ns.1; made = refl })

regs_item_is : (p : Place) (ts : Tokens) (x : Item × Tokens) → regs_item p ts ≡ Some x → IsItem (word p (codes "reg") ∷ ts) x.1 x.0
unfolding regs_item
regs_item_is p ts x e =
    let s = bind_some (shape_at ts) (λ s. vars_item p (types.Reg s.0.signed s.0.range) s.1) x e in
    let v = vars_item_is p (types.Reg s.0.0.signed s.0.0.range) s.0.1 x s.2 in
    regs p v.at ts s.0.1 s.0.0 v.list (shape_is ts s.0 s.1) v.is refl v.made

params_item_is : (p : Place) (text : List ℕ) (w : ParamWord) (ts : Tokens) (x : Item × Tokens) → param_of text ≡ Some w → params_item p w ts ≡ Some x → IsItem (word p text ∷ ts) x.1 x.0
unfolding params_item
params_item_is p text w ts x meant e =
    let s = bind_some (shape_at ts) (λ s. listed param_part_at s.1 >>= λ l. Some (item p (form.Params w s.0.signed s.0.range l.0), l.1)) x e in
    let l = bind_some (listed param_part_at s.0.1) (λ l. Some (item p (form.Params w s.0.0.signed s.0.0.range l.0), l.1)) x s.2 in
    let ns = listed_is IsParamPart param_part_at param_part_is s.0.1 l.0 l.1 in
    done IsItem (word p text ∷ ts) (item p (form.Params w s.0.0.signed s.0.0.range l.0.0), l.0.1) x l.2 (params p ns.0 text w ts s.0.1 s.0.0 l.0.0 (shape_is ts s.0 s.1) ns.1 meant refl refl)

assigns_item_is : (p : Place) (ts : Tokens) (x : Item × Tokens) → assigns_item p ts ≡ Some x → IsItem (word p (codes "assign") ∷ ts) x.1 x.0
unfolding assigns_item
assigns_item_is p ts x e =
    let l = bind_some (listed assign_at ts) (λ l. Some (item p (form.Assign l.0), l.1)) x e in
    let ns = listed_is IsAssign assign_at assign_is ts l.0 l.1 in
    done IsItem (word p (codes "assign") ∷ ts) (item p (form.Assign l.0.0), l.0.1) x l.2 (assigns p ns.0 ts l.0.0 ns.1 refl refl)

insts_item_is : (p : Place) (text : List ℕ) (ts : Tokens) (x : Item × Tokens) → insts_item p text ts ≡ Some x → IsItem (name p text ∷ ts) x.1 x.0
unfolding insts_item
insts_item_is p text ts x e =
    let o = bind_some (overrides_at ts) (λ o. listed inst_at o.1 >>= λ l. Some (item p (form.Insts (record { text = text; place = p }) o.0 l.0), l.1)) x e in
    let l = bind_some (listed inst_at o.0.1) (λ l. Some (item p (form.Insts (record { text = text; place = p }) o.0.0 l.0), l.1)) x o.2 in
    let ns = listed_is IsInst inst_at inst_is o.0.1 l.0 l.1 in
    done IsItem (name p text ∷ ts) (item p (form.Insts (record { text = text; place = p }) o.0.0 l.0.0), l.0.1) x l.2 (insts p ns.0 text ts o.0.1 o.0.0 l.0.0 (overrides_is ts o.0 o.1) ns.1 refl refl)

initial_item_is : (p : Place) (ts : Tokens) (x : Item × Tokens) → initial_item p ts ≡ Some x → IsItem (word p (codes "initial") ∷ ts) x.1 x.0
unfolding initial_item
initial_item_is p ts x e =
    let s = bind_some (stmt_at 200 ts) (λ s. Some (item p (form.Initial s.0), s.2)) x e in
    let r = stmt_is 200 ts s.0 s.1 in
    done IsItem (word p (codes "initial") ∷ ts) (item p (form.Initial s.0.0), s.0.2) x s.2 (initial r.lone s.0.1 p ts s.0.0 r.is refl refl)

always_item_is : (p : Place) (ts : Tokens) (x : Item × Tokens) → always_item p ts ≡ Some x → IsItem (word p (codes "always") ∷ ts) x.1 x.0
unfolding always_item
always_item_is p ts x e =
    let s = bind_some (stmt_at 200 ts) (λ s. Some (item p (form.Always s.0), s.2)) x e in
    let r = stmt_is 200 ts s.0 s.1 in
    done IsItem (word p (codes "always") ∷ ts) (item p (form.Always s.0.0), s.0.2) x s.2 (always r.lone s.0.1 p ts s.0.0 r.is refl refl)

process_is : (p : Place) (text : List ℕ) (ts : Tokens) (x : Item × Tokens) → process_by p text ts ≡ Some x → IsItem (word p text ∷ ts) x.1 x.0
unfolding process_by
process_is p text ts x e =
    let R : List ℕ → Type 0 = λ t. IsItem (word p t ∷ ts) x.1 x.0 in
    chosen text (codes "assign") _ _ x R e (λ a. assigns_item_is p ts x a) (λ e.
    chosen text (codes "initial") _ _ x R e (λ a. initial_item_is p ts x a) (λ e.
    chosen text (codes "always") _ _ x R e (λ a. always_item_is p ts x a) (λ e. absurd cc)))

vars_is : (p : Place) (text : List ℕ) (ts : Tokens) (x : Item × Tokens) → vars_by p text ts ≡ Some x → IsItem (word p text ∷ ts) x.1 x.0
unfolding vars_by
vars_is p text ts x e =
    let R : List ℕ → Type 0 = λ t. IsItem (word p t ∷ ts) x.1 x.0 in
    chosen text (codes "reg") _ _ x R e (λ a. regs_item_is p ts x a) (λ e.
    chosen text (codes "integer") _ _ x R e (λ a. let v = vars_item_is p types.Integer ts x a in integers p v.at ts v.list v.is refl v.made) (λ e.
    chosen text (codes "time") _ _ x R e (λ a. let v = vars_item_is p types.Time ts x a in times p v.at ts v.list v.is refl v.made) (λ e. process_is p text ts x e)))

word_item_is : (p : Place) (text : List ℕ) (ts : Tokens) (x : Item × Tokens) → word_item p text ts ≡ Some x → IsItem (word p text ∷ ts) x.1 x.0
unfolding word_item nets_by params_by
word_item_is p text ts x e =
    elim (found_is (dir_of text) (λ d. ports_item (record { place = p; word = d }) ts) (nets_by p text ts) x e) [
      | inl d ↦ ports_item_is p text d.0 ts x d.1 d.2
      | inr d ↦ elim (found_is (net_of text) (λ w. nets_item p w ts) (params_by p text ts) x d.1) [
        | inl w ↦ nets_item_is p text w.0 ts x w.1 w.2
        | inr w ↦ elim (found_is (param_of text) (λ w. params_item p w ts) (vars_by p text ts) x w.1) [
          | inl v ↦ params_item_is p text v.0 ts x v.1 v.2
          | inr v ↦ vars_is p text ts x v.1
        ]
      ]
    ]

item_kind : (k : TokenKind) (p : Place) (ts : Tokens) (x : Item × Tokens) → item_by k p ts ≡ Some x → IsItem (record { kind = k; place = p } ∷ ts) x.1 x.0
item_kind (token.Word text) p ts x e = word_item_is p text ts x e
item_kind (token.Name text) p ts x e = insts_item_is p text ts x e
item_kind (token.System text) p ts x e = absurd cc
item_kind (token.Sign text) p ts x e = absurd cc
item_kind (token.Number v) p ts x e = absurd cc
item_kind (token.Quoted text) p ts x e = absurd cc

pub item_is : (ts : Tokens) (x : Item × Tokens) → item_at ts ≡ Some x → IsItem ts x.1 x.0
unfolding item_at
item_is [] x e = absurd cc
item_is (t ∷ ts) x e = item_kind t.kind t.place ts x e
