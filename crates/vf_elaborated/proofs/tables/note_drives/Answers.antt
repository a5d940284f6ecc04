use Rattle.std.proofs.Common.{◌&&◌, sym, ◌∙◌, ap, ap₂}
use Rattle.std.specs.Option.{option_map}
use Rattle.vf_elaborated.specs.Drivers.{target_of}
use Rattle.vf_elaborated.specs.Tables.{names_net, drives}
use Rattle.vf_elaborated.proofs.NoteLemmas.{noted_nowhere}
use Rattle.vf_elaborated.proofs.tables.note_drives.Goals as goal

pub returns-then-is_none : goal.returns-then-is_none
returns-then-is_none c =
    noted_nowhere c.args.number (λ net. drives net c.args.process.now) c.args.lists.now
    (λ net. ap (λ b. b && names_net net (target_of c.args.process.now)) c.if-is_none.ensures)

pub returns-in-None : goal.returns-in-None
returns-in-None c =
    noted_nowhere c.args.number (λ net. drives net c.args.process.now) c.args.lists.now
    (λ net. ap₂ (λ b target. b && names_net net target) c.if-is_none.ensures (sym c.target.ensures ∙ ap (option_map (λ target. target.now)) c.in-None.is))
