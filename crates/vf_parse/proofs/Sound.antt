-- What the readers read is what the grammar says.
use Rattle.std.proofs.Common.{◌≡◌, List, [], ◌∷◌, length, Some, None, refl, ap, subst, sym, ◌∙◌, inl, inr, codes}
use Rattle.vf_base.specs.declared.names.Place.{Place}
use Rattle.vf_lex.specs.declared.token.Token.{Token}
use Rattle.vf_tree.specs.declared.modules.Item.{Item}
use Rattle.vf_tree.specs.declared.modules.Module.{Module}
use Rattle.vf_tree.specs.declared.modules.Source.{Source}
use Rattle.vf_expression.specs.Grammar.{Tokens, word}
use Rattle.vf_expression.specs.Reading.{◌>>=◌, after, ended}
use Rattle.vf_expression.proofs.CallerLemmas.{bind_some, some_is, found_is}
use Rattle.vf_control.proofs.CallerLemmas.{taken}
use Rattle.vf_statement.specs.Reading.{is_word, after_word, name_at}
use Rattle.vf_statement.proofs.CallerLemmas.{word_token, after_word_is, name_is}
use Rattle.vf_item.specs.Rows.{IsRow, row_from}
use Rattle.vf_item.specs.Grammar.{IsPortList, IsItem}
use Rattle.vf_item.specs.Reading.{params_at, port_list_at, item_at}
use Rattle.vf_item.proofs.CallerLemmas.{readings_are, done, closed_by, row_read}
use Rattle.vf_parse.specs.Grammar.{IsModule, one_module, IsSource, modules}
use Rattle.vf_parse.specs.Reading.{before_end, after_end, module_from, module_at, some_tokens, source_of}

item_is : (ts us : Tokens) (x : Item × Tokens) → before_end ts ≡ Some us → item_at us ≡ Some x → IsItem ts x.1 x.0
item_is ts us x e read =
    elim (found_is {B = Tokens} (after_word (codes "endmodule") ts) (λ vs. None) (Some ts) us e) [
      | inl gone ↦ absurd cc
      | inr here ↦ subst (λ (vs : Tokens). IsItem vs x.1 x.0) (sym (some_is ts us here.1)) (readings_are.items.sound us x read)
    ]

module_from_is : (p : Place) (ts : Tokens) (x : Module × Tokens) → module_from p ts ≡ Some x → IsModule (word p (codes "module") ∷ ts) x.1 x.0
unfolding module_from
module_from_is p ts x e =
    let n = bind_some (name_at ts) (λ n. params_at n.1 >>= λ ps. port_list_at ps.1 >>= λ l. after (codes ";") l.1 >>= λ us. row_from before_end item_at (length us) [] us >>= λ is. after_end is.1 >>= λ rest. Some (record { place = p; name = n.0; params = ps.0; ports = l.0; items = is.0 }, rest)) x e in
    let ps = bind_some (params_at n.0.1) (λ ps. port_list_at ps.1 >>= λ l. after (codes ";") l.1 >>= λ us. row_from before_end item_at (length us) [] us >>= λ is. after_end is.1 >>= λ rest. Some (record { place = p; name = n.0.0; params = ps.0; ports = l.0; items = is.0 }, rest)) x n.2 in
    let l = bind_some (port_list_at ps.0.1) (λ l. after (codes ";") l.1 >>= λ us. row_from before_end item_at (length us) [] us >>= λ is. after_end is.1 >>= λ rest. Some (record { place = p; name = n.0.0; params = ps.0.0; ports = l.0; items = is.0 }, rest)) x ps.2 in
    let u = bind_some (after (codes ";") l.0.1) (λ us. row_from before_end item_at (length us) [] us >>= λ is. after_end is.1 >>= λ rest. Some (record { place = p; name = n.0.0; params = ps.0.0; ports = l.0.0; items = is.0 }, rest)) x l.2 in
    let is = bind_some (row_from before_end item_at (length u.0) [] u.0) (λ is. after_end is.1 >>= λ rest. Some (record { place = p; name = n.0.0; params = ps.0.0; ports = l.0.0; items = is.0 }, rest)) x u.2 in
    let r = bind_some (after_end is.0.1) (λ rest. Some (record { place = p; name = n.0.0; params = ps.0.0; ports = l.0.0; items = is.0.0 }, rest)) x is.2 in
    let list = closed_by IsPortList ps.0.1 l.0 (codes ";") u.0 (readings_are.port_lists.sound ps.0.1 l.0 l.1) u.1 in
    let row = row_read IsItem before_end item_at item_is (length u.0) [] u.0 is.0 is.1 in
    let q = after_word_is (codes "endmodule") is.0.1 r.0 r.1 in
    let items : IsRow IsItem u.0 (word q.0 (codes "endmodule") ∷ r.0) is.0.0
    = subst (λ (ws : Tokens). IsRow IsItem u.0 ws is.0.0) q.1 (subst (λ (ts : List Item). IsRow IsItem u.0 is.0.1 ts) (sym row.joined) row.is) in
    done IsModule (word p (codes "module") ∷ ts) (record { place = p; name = n.0.0; params = ps.0.0; ports = l.0.0; items = is.0.0 }, r.0) x r.2
    (one_module p n.0.0.place list.0 q.0 n.0.0.text n.0.1 ps.0.1 u.0 ps.0.0 l.0.0 is.0.0 (readings_are.params.sound n.0.1 ps.0 ps.1) list.1 items (ap (λ (us : Tokens). word p (codes "module") ∷ us) (name_is ts n.0 n.1)) refl)

module_is : (ts : Tokens) (x : Module × Tokens) → module_at ts ≡ Some x → IsModule ts x.1 x.0
unfolding module_at
module_is [] x e = absurd cc
module_is (t ∷ ts) x e =
    let g = taken (is_word (codes "module") t.kind) (module_from t.place ts) x e in
    subst (λ (u : Token). IsModule (u ∷ ts) x.1 x.0) (sym (word_token (codes "module") t g.0)) (module_from_is t.place ts x g.1)

some_is_all : (ts us : Tokens) → some_tokens ts ≡ Some us → us ≡ ts
some_is_all [] us e = absurd cc
some_is_all (t ∷ ts) us e = sym (some_is (t ∷ ts) us e)

next_module_is : (ts us : Tokens) (x : Module × Tokens) → some_tokens ts ≡ Some us → module_at us ≡ Some x → IsModule ts x.1 x.0
next_module_is ts us x e read = subst (λ (vs : Tokens). IsModule vs x.1 x.0) (some_is_all ts us e) (module_is us x read)

ended_is : (ts : Tokens) (u : Unit {0}) → ended ts ≡ Some u → ts ≡ []
ended_is [] u e = refl
ended_is (t ∷ rest) u e = absurd cc

pub source_is : (ts : Tokens) (tree : Source) → source_of ts ≡ Some tree → IsSource ts tree
unfolding source_of
source_is ts tree e =
    let m = bind_some (module_at ts) (λ m. row_from some_tokens module_at (length m.1) (m.0 ∷ []) m.1 >>= λ l. ended l.1 >>= λ end. Some (record { place = m.0.place; modules = l.0 })) tree e in
    let l = bind_some (row_from some_tokens module_at (length m.0.1) (m.0.0 ∷ []) m.0.1) (λ l. ended l.1 >>= λ end. Some (record { place = m.0.0.place; modules = l.0 })) tree m.2 in
    let end = bind_some (ended l.0.1) (λ end. Some (record { place = m.0.0.place; modules = l.0.0 })) tree l.2 in
    let row = row_read IsModule some_tokens module_at next_module_is (length m.0.1) (m.0.0 ∷ []) m.0.1 l.0 l.1 in
    let all : IsRow IsModule m.0.1 [] row.others = subst (λ (ws : Tokens). IsRow IsModule m.0.1 ws row.others) (ended_is l.0.1 end.0 end.1) row.is in
    modules m.0.1 m.0.0 row.others (module_is ts m.0 m.1) all (sym (some_is _ tree end.2) ∙ ap (λ (ms : List Module). record { place = m.0.0.place; modules = ms }) row.joined)
