-- A simulator at its save point that is kept as the image of its node.
use Rattle.std.proofs.Common.{◌≡◌, ℕ, ◌<◌, true, List, length, drop, Option, Some, None, option_map, sym, ap, ◌∙◌, arith, subst}
use Rattle.std.specs.Prelude.{slice_set}
use Rattle.vf_base.specs.declared.names.Job.{Job}
use Rattle.vf_base.specs.declared.names.Job.TheVariants.{Reach}
use Rattle.vf_base.specs.declared.names.NodeNo.{NodeNo}
use Rattle.vf_base.specs.declared.run.Header.{Header}
use Rattle.vf_base.specs.declared.run.SaveKind.{SaveKind}
use Rattle.vf_jobs.specs.Jobs.{node_of, node_no}
use Rattle.vf_jobs.specs.Setup.{Conditions}
use Rattle.vf_journal.specs.declared.entry.Entry.TheVariants.{Saved}
use Rattle.vf_journal.specs.Records.{Held, image_of, is_job}
use Rattle.vf_journal.specs.Journal.{base_for}
use Rattle.vf_records.specs.Account.{Account, IsAccount, IsLawful, solo_of, records_in}
use Rattle.vf_image.specs.Images.{Checkpoint, IsOwnCount}
use Rattle.vf_image.specs.Simulators.{Simulator, IsSimulator}
use Rattle.vf_image.specs.Standing.{IsAtSave}
use Rattle.vf_book.specs.Book.{IsHeldAs, IsBook, Lags, Appends, Saves}
use Rattle.vf_book.specs.Attempts.{IsOpen, IsWithin}
use Rattle.vf_book.specs.Forks.{HasBaseOf, IsKeptAs}
use Rattle.vf_book.proofs.CallLemmas.{made_of}
use Rattle.vf_book.proofs.StartLemmas.{has_base_for}
use Rattle.vf_book.proofs.SaveLemmas.{unsaved, lags_saved}
use Rattle.vf_book.proofs.Entries.{save_lawful, save_counts}

module _ (a : Account) (images : List (Option Checkpoint)) (book : IsBook (made_of a images)) (kept : IsAccount a) (s : Simulator) (runs : IsOpen a s) (sim : IsSimulator s)
    (job : Job) (header : Header) (job_is : job ≡ s.job) (header_is : header ≡ s.header) (node : NodeNo) (node_is : node.0 ≡ node_of job) (at : IsAtSave s (record { 0 = node_of s.job })) where
  node_same : node ≡ record { 0 = node_of s.job }
  node_same = ap node_no node_is ∙ ap (λ (j : Job). node_no (node_of j)) job_is

  reach : s.job ≡ Reach node
  reach = at.job ∙ ap Reach (sym node_same)

  at_node : IsAtSave s node
  at_node = subst (IsAtSave s) (sym node_same) at

  pub planned_reach : is_job a.setup.plan (Reach node) ≡ true
  planned_reach = ap (is_job a.setup.plan) (sym reach) ∙ kept.images.planned s.job runs.attempt runs.runs

  pub node_inside : node.0 < length images
  node_inside =
      let plan = ap (λ (c : Conditions). length c.plan) runs.setup in
      let same = ap (λ (n : NodeNo). n.0) node_same in
      omega (arith, sim.job, plan, same, book.long)

  pub node_unsaved : image_of (records_in a) node ≡ None
  node_unsaved = unsaved a node runs.attempt kept (ap (records_in a).stages (sym reach) ∙ runs.runs)

  module _ (kind : SaveKind) (base : Option NodeNo) (base_is : base ≡ option_map (λ (h : Held). h.node) (base_for (records_in a) node kind)) where
    pub base_there_for : HasBaseOf images s base
    base_there_for = has_base_for a images book kept s node kind base runs reach base_is

    module _ (asked : s.saved ≡ Some kind) (within : IsWithin s) (i : Checkpoint) (as_kept : IsKeptAs s base i) (pages : ℕ) (own : IsOwnCount i i.base pages) (count : pages ≡ length i.pages.pages)
        (framed : length i.pages.holder.frames ≡ pages) where
      image_node : i.node ≡ node
      image_node = ap node_no as_kept.node ∙ sym node_same

      pub may_save : IsLawful a (Saved node header.turns pages base)
      may_save =
          subst (λ (h : Header). IsLawful a (Saved node h.turns pages base)) (sym header_is)
          (save_lawful a s node kind base pages i kept runs sim within at_node asked base_is as_kept.setup image_node (ap (λ (h : Header). h.turns) as_kept.header) (subst (λ b. IsOwnCount i b pages) as_kept.based own))

      pub counts_saved : header ≡ (solo_of a.setup).counts (record { node = node; turn = header.turns; pages = pages; base = base })
      counts_saved =
          subst (λ (h : Header). h ≡ (solo_of a.setup).counts (record { node = node; turn = h.turns; pages = pages; base = base })) (sym header_is) (save_counts a s node base pages runs sim reach)

      held_as_saved : IsHeldAs a.setup i record { node = node; turn = header.turns; pages = pages; base = base }
      held_as_saved = record {
        setup = as_kept.setup ∙ runs.setup;
        node = image_node;
        turn = ap (λ (h : Header). h.turns) (as_kept.header ∙ sym header_is);
        base = as_kept.based;
        pages = sym count;
        frames = framed;
      }

      module _ (b : Account) (made : Appends (Saved node header.turns pages base) a b) where
        pub lags_put : Lags b (slice_set images node.0 (Some i)) (drop (length a.journal) b.journal)
        lags_put = lags_saved a b images book node header.turns pages base i node_inside node_unsaved made held_as_saved

        pub saves_node : Saves a b (record { 0 = node_of s.job }) s.header.turns kind
        saves_node =
            subst (λ (n : NodeNo). Saves a b n s.header.turns kind) node_same
            (subst (λ (h : Header). Saves a b node h.turns kind) header_is
            record { pages = pages; base = base; based = base_is; solo = may_save.solo; entry = made })
