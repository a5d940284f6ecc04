use Rattle.std.proofs.Common.{ap}
use Rattle.vf_lex.specs.Inner.{around}
use Rattle.vf_lex.proofs.ReaderLemmas.{defined}
use Rattle.vf_lex.proofs.reader.Reader.define.Goals as goal

pub returns : goal.returns
unfolding around
returns c =
    let now = around c.args.self.now in
    ap (λ macros. record now { macros = macros })
    (defined (λ key. key.items) (λ text. text.items) c.args.self.now.macros.entries c.insert.new.self.entries
    c.in_ok-from_slice.field-0 c.args.name.now c.args.text
    c.in_ok-insert.ensures.entries c.in_ok-from_slice.ensures.items)
