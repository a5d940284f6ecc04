use Rattle.std.proofs.Common.{◌≡◌, ◌∙◌, ◌≤◌, ◌∷◌, [], ℕ, List, length, ap, sym, subst, refl, arith, IfSome, slice_get, take, length-append}
use Rattle.std.specs.Str.{bytes_eq}
use Rattle.vf_plan.specs.declared.plan.PathSize.{PathSize}
use Rattle.vf_plan.specs.Paths.{path_to}
use Rattle.vf_plan.specs.Rules.{IsNodeAfter}
use Rattle.vf_plan.proofs.PathLemmas.{sized-push}
use Rattle.vf_plan.proofs.ReaderLemmas.{each-push, after-push, named-push}
use Rattle.vf_plan.proofs.reader.Reader.with.Goals as goal

pub invariant_of-result : goal.invariant_of-result
invariant_of-result c =
    let nodes = c.self.inside.nodes.items in
    let node = c.args.node in
    let path = c.path_to-path.result in
    let fits : IsNodeAfter nodes node = subst (λ ns. IsNodeAfter ns node) (sym c.self.view_is) c.requires.fits in
    let sized : path ≡ path_to nodes node = c.path_to-path.ensures ∙ ap (λ ns. path_to ns node) (sym c.self.view_is) in
    let long = ap length c.in_ok-push-2.ensures.items ∙ length-append nodes (node ∷ []) in
    let before = ap length c.self.view_is in
    let depth : path.nodes ≤ 64 = subst (λ (p : PathSize). p.nodes ≤ 64) (sym sized) fits.depth in
    let bytes : path.bytes ≤ 1048576 = subst (λ (p : PathSize). p.bytes ≤ 1048576) (sym sized) fits.bytes in
    record {
      named = named-push (λ name. name.items) (λ a b. bytes_eq a.items b.items) c.self.inside.names.keys c.insert.new.self.keys c.in_ok-from_slice.field-0 nodes c.push-2.new.self.items node (λ k. refl) c.self.invariant.named (c.in_ok-from_slice.ensures.items ∙ c.bytes.ensures) fits.new c.in_ok-insert.ensures.keys c.in_ok-push-2.ensures.items;
      sized = sized-push nodes node c.self.inside.paths.items c.push.new.self.items path c.push-2.new.self.items c.self.invariant.sized sized c.in_ok-push.ensures.items c.in_ok-push-2.ensures.items;
      few = omega (arith, long, before, c.requires.few);
      small = subst (λ (ps : List PathSize). (n : ℕ) → IfSome (slice_get ps n) (λ p. (p.nodes ≤ 64) × (p.bytes ≤ 1048576))) (sym c.in_ok-push.ensures.items) (each-push (λ n p. (p.nodes ≤ 64) × (p.bytes ≤ 1048576)) c.self.inside.paths.items path c.self.invariant.small (depth, bytes));
      each = subst (λ ns. (n : ℕ) → IfSome (slice_get ns n) (IsNodeAfter (take n ns))) (sym c.in_ok-push-2.ensures.items) (after-push nodes node c.self.invariant.each fits);
    }
