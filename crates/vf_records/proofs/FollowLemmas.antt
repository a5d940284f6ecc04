-- What follows where a job is over: copies one after another, and images given back one after another.
use Rattle.std.proofs.Common.{◌≡◌, ℕ, ◌+◌, ◌<◌, ◌≤◌, zero, suc, nat_lt, Bool, true, false, ◌&&◌, ◌==◌, not, if◌then◌else◌, List, [], ◌∷◌, ◌++◌, length, map, Some, is_some, refl, sym, ◌∙◌, ap, subst, arith, slice_get, get_or, unwrap_or, append_assoc, append-nil}
use Rattle.std.specs.List.{filter, find}
use Rattle.std.proofs.lemmas.Bool.{false≢true, ltb-true, ltb-false}
use Rattle.std.proofs.lemmas.Option.{slice_get_within}
use Rattle.std.proofs.lemmas.List.{length-map}
use Rattle.std.proofs.lemmas.List.Elements.{All-map}
use Rattle.vf_base.specs.declared.names.Job.{Job}
use Rattle.vf_base.specs.declared.names.NodeNo.{NodeNo}
use Rattle.vf_base.specs.declared.run.Header.{Header}
use Rattle.vf_jobs.specs.Jobs.{node_of, node_no}
use Rattle.vf_jobs.specs.Subtree.{is_below}
use Rattle.vf_jobs.specs.Setup.{Conditions}
use Rattle.vf_journal.specs.declared.entry.Entry.TheVariants.{Copy, Retire}
use Rattle.vf_journal.specs.declared.entry.Told.TheVariants as told
use Rattle.vf_journal.specs.Records.{Held, Records, is_job, is_over}
use Rattle.vf_journal.specs.Effects as effects
use Rattle.vf_journal.specs.Effects.{with_over, with_copies, without_image, without_unneeded, copies, retirings, is_copied, is_retired}
use Rattle.vf_records.specs.declared.row.HeldImage.{HeldImage}
use Rattle.vf_records.specs.declared.tables.Tables.{Tables}
use Rattle.vf_records.specs.Account.{farm_of, later}
use Rattle.vf_records.specs.Layout.{place_in}
use Rattle.vf_records.specs.Tables.{held_of, records_of, AreTables}
use Rattle.vf_records.proofs.CopyLemmas.{and_false, is_under, there, copied_below, copies_below, copied_none, copied_all, copied_step, copied_skip, still_copied, entries_all, entries_step, entries_skip}
use Rattle.vf_records.proofs.ReadyLemmas.{standing, over_before}
use Rattle.vf_records.proofs.RetireLemmas.{kept_below, same_retired, kept_step, kept_none, kept_all, retirings_below, retirings_step, without_one, map_filter}

-- ---- copies

-- the tables where the jobs of the first places are copied
pub record AreCopied (s : Conditions) (counts : Held → Header) (spread : effects.Spread) (first t : Tables) (at : ℕ) : Type 0 where
  pub layout : t.layout ≡ first.layout
  pub records : records_of t ≡ copied_below s spread first.layout.places.items (records_of first) at
  pub journal : t.journal.items ≡ first.journal.items ++ copies_below s spread first.layout.jobs.items (records_of first) at
  pub tables : AreTables s.plan counts t

-- the jobs from the first that is left to where those of the node's subtree end; the last node of those that are copied
pub record IsCopying (s : Conditions) (counts : Held → Header) (spread : effects.Spread) (first t : Tables) (last : NodeNo) (at : ℕ) : Type 0 where
  pub copied : AreCopied s counts spread first t at
  pub within : last.0 < length s.plan
  pub node : spread.node.0 ≤ last.0
  pub most : (k : ℕ) (job : Job) → k < at → slice_get first.layout.jobs.items k ≡ Some job → is_copied (farm_of s) (records_of first) spread job ≡ true → node_of job ≤ last.0

module _ (s : Conditions) (counts : Held → Header) (spread : effects.Spread) (first : Tables) (kept : AreTables s.plan counts first) where
  pub copied_first : AreCopied s counts spread first first 0
  copied_first = record {
    layout = refl;
    records = sym (copied_none s spread first.layout.jobs.items first.layout.places.items kept.layout (records_of first));
    journal = sym (append-nil first.journal.items);
    tables = kept;
  }

  pub as_at_first : (t : Tables) (at : ℕ) (job : Job) → AreCopied s counts spread first t at → slice_get first.layout.jobs.items at ≡ Some job
      → is_copied (farm_of s) (records_of t) spread job ≡ is_copied (farm_of s) (records_of first) spread job
  as_at_first t at job h e =
      ap (λ (r : Records). is_copied (farm_of s) r spread job) h.records ∙ still_copied s spread first.layout.jobs.items first.layout.places.items kept.layout (records_of first) at job e

  pub copied_next : (t new : Tables) (at : ℕ) (job : Job) → AreCopied s counts spread first t at → slice_get first.layout.jobs.items at ≡ Some job
      → is_copied (farm_of s) (records_of t) spread job ≡ true → new.layout ≡ t.layout
      → records_of new ≡ with_over job (Some (told.Copied spread.node)) spread.kind (records_of t) → new.journal.items ≡ t.journal.items ++ Copy job spread.node ∷ []
      → AreTables s.plan counts new → AreCopied s counts spread first new (at + 1)
  copied_next t new at job h e c layout records journal tables =
      let r = records_of first in
      let listed = first.layout.jobs.items in
      let places = first.layout.places.items in
      let copied = sym (as_at_first t at job h e) ∙ c in
      record {
        layout = layout ∙ h.layout;
        records = records ∙ ap (with_over job (Some (told.Copied spread.node)) spread.kind) h.records ∙ copied_step s spread listed places kept.layout r at job e copied;
        journal = journal ∙ ap (λ js. js ++ Copy job spread.node ∷ []) h.journal
            ∙ append_assoc first.journal.items (copies_below s spread listed r at) (Copy job spread.node ∷ [])
            ∙ ap (λ js. first.journal.items ++ js) (sym (entries_step s spread listed places kept.layout r at job e copied));
        tables = tables;
      }

  pub copied_past : (t : Tables) (at : ℕ) (job : Job) → AreCopied s counts spread first t at → slice_get first.layout.jobs.items at ≡ Some job
      → is_copied (farm_of s) (records_of t) spread job ≡ false → AreCopied s counts spread first t (at + 1)
  copied_past t at job h e c =
      let r = records_of first in
      let listed = first.layout.jobs.items in
      let places = first.layout.places.items in
      let copied = sym (as_at_first t at job h e) ∙ c in
      record {
        layout = h.layout;
        records = h.records ∙ copied_skip s spread listed places kept.layout r at job e copied;
        journal = h.journal ∙ ap (λ js. first.journal.items ++ js) (sym (entries_skip s spread listed places kept.layout r at job e copied));
        tables = h.tables;
      }

  -- past jobs that are not copied
  copied_on : (t : Tables) (at : ℕ) → AreCopied s counts spread first t at
      → ((job : Job) → slice_get first.layout.jobs.items at ≡ Some job → is_copied (farm_of s) (records_of first) spread job ≡ false) → AreCopied s counts spread first t (at + 1)
  copied_on t at h none = by (nat_lt at (length first.layout.jobs.items)) refl
    where
      by : (b : Bool) → nat_lt at (length first.layout.jobs.items) ≡ b → AreCopied s counts spread first t (at + 1)
      by true e =
          let st = standing first.layout.jobs.items at (ltb-true at (length first.layout.jobs.items) e) in
          copied_past t at st.0 h st.1 (as_at_first t at st.0 h st.1 ∙ none st.0 st.1)
      by false e =
          let r = records_of first in
          let places = first.layout.places.items in
          let past = ltb-false at (length first.layout.jobs.items) e in
          record {
            layout = h.layout;
            records = h.records ∙ copied_all s spread first.layout.jobs.items places kept.layout r at past ∙ sym (copied_all s spread first.layout.jobs.items places kept.layout r (at + 1) (omega (arith, past)));
            journal = h.journal ∙ ap (λ js. first.journal.items ++ js)
                (entries_all s spread first.layout.jobs.items places kept.layout r at past ∙ sym (entries_all s spread first.layout.jobs.items places kept.layout r (at + 1) (omega (arith, past))));
            tables = h.tables;
          }

  pub copied_to : (t : Tables) (at to : ℕ) → AreCopied s counts spread first t at → at ≤ to
      → ((k : ℕ) (job : Job) → at ≤ k → k < to → slice_get first.layout.jobs.items k ≡ Some job → is_copied (farm_of s) (records_of first) spread job ≡ false) → AreCopied s counts spread first t to
  copied_to t at zero h less none = subst (AreCopied s counts spread first t) (let same : at ≡ zero = omega (arith, less) in same) h
  copied_to t at (suc to) h less none = by (nat_lt to at) refl (copied_to t at to h)
    where
      by : (b : Bool) → nat_lt to at ≡ b
          → (at ≤ to → ((k : ℕ) (job : Job) → at ≤ k → k < to → slice_get first.layout.jobs.items k ≡ Some job → is_copied (farm_of s) (records_of first) spread job ≡ false) → AreCopied s counts spread first t to)
          → AreCopied s counts spread first t (suc to)
      by true e further =
          let same : at ≡ suc to = (let last = ltb-true to at e in omega (arith, less, last)) in
          subst (AreCopied s counts spread first t) same h
      by false e further =
          let least = ltb-false to at e in
          let one : to + 1 ≡ suc to = omega arith in
          subst (AreCopied s counts spread first t) one
          (copied_on t to (further least (λ k job low high is. none k job low (omega (arith, high)) is)) (λ job is. none to job least (omega arith) is))

  over_copied : (job : Job) → is_over ((records_of first).stages job) ≡ true → is_copied (farm_of s) (records_of first) spread job ≡ false
  over_copied job e =
      ap (λ o. is_job s.plan job && (is_below s.plan spread.node.0 (node_of job) && (not o && spread.fits job))) e
      ∙ ap (λ b. is_job s.plan job && b) (and_false (is_below s.plan spread.node.0 (node_of job))) ∙ and_false (is_job s.plan job)

  none_before : (k : ℕ) (job : Job) → k < first.first → slice_get first.layout.jobs.items k ≡ Some job → is_copied (farm_of s) (records_of first) spread job ≡ false
  none_before k job less e = over_copied job (over_before s counts first kept k job less e)

  pub copying_first : spread.node.0 < length s.plan → IsCopying s counts spread first first spread.node first.first
  copying_first inside = record {
    copied = copied_to first 0 first.first copied_first (omega arith) (λ k job low less e. none_before k job less e);
    within = inside;
    node = omega arith;
    most = λ k job less e is. absurd (false≢true (sym (none_before k job less e) ∙ is));
  }

  pub copying_next : (t new : Tables) (last : NodeNo) (at : ℕ) (job : Job) (node : NodeNo) → IsCopying s counts spread first t last at → slice_get first.layout.jobs.items at ≡ Some job → node.0 ≡ node_of job
      → AreCopied s counts spread first new (at + 1) → IsCopying s counts spread first new (later last node) (at + 1)
  copying_next t new last at job node h e is copied = by (nat_lt last.0 node.0) refl
    where
      inside : node_of job < length s.plan
      inside = kept.layout.within at job e

      either : (last2 : NodeNo) → last.0 ≤ last2.0 → node_of job ≤ last2.0 → (k : ℕ) (other : Job) → k < at + 1 → slice_get first.layout.jobs.items k ≡ Some other
          → is_copied (farm_of s) (records_of first) spread other ≡ true → node_of other ≤ last2.0
      either last2 a b k other less there copied = on (nat_lt k at) refl
        where
          on : (b : Bool) → nat_lt k at ≡ b → node_of other ≤ last2.0
          on true l = let most = h.most k other (ltb-true k at l) there copied in omega (arith, most, a)
          on false l =
              let same : k ≡ at = (let least = ltb-false k at l in omega (arith, least, less)) in
              let jobs : other ≡ job = ap (λ o. unwrap_or o other) (sym there ∙ ap (slice_get first.layout.jobs.items) same ∙ e) in
              let number = ap node_of jobs in
              omega (arith, number, b)

      by : (b : Bool) → nat_lt last.0 node.0 ≡ b → IsCopying s counts spread first new (if b then node else last) (at + 1)
      by true l =
          let less = ltb-true last.0 node.0 l in
          let low = h.node in
          record { copied = copied; within = omega (arith, is, inside); node = omega (arith, low, less); most = either node (omega (arith, less)) (omega (arith, is)) }
      by false l =
          let least = ltb-false last.0 node.0 l in
          record { copied = copied; within = h.within; node = h.node; most = either last (omega arith) (omega (arith, least, is)) }

  pub copying_past : (t : Tables) (last : NodeNo) (at : ℕ) (job : Job) → IsCopying s counts spread first t last at → slice_get first.layout.jobs.items at ≡ Some job
      → is_copied (farm_of s) (records_of t) spread job ≡ false → IsCopying s counts spread first t last (at + 1)
  copying_past t last at job h e none = record {
    copied = copied_past t at job h.copied e none;
    within = h.within;
    node = h.node;
    most = λ k other less there copied. on k other less there copied (nat_lt k at) refl;
  }
    where
      on : (k : ℕ) (other : Job) → k < at + 1 → slice_get first.layout.jobs.items k ≡ Some other → is_copied (farm_of s) (records_of first) spread other ≡ true
          → (b : Bool) → nat_lt k at ≡ b → node_of other ≤ last.0
      on k other less there copied true l = h.most k other (ltb-true k at l) there copied
      on k other less there copied false l =
          let same : k ≡ at = (let least = ltb-false k at l in omega (arith, least, less)) in
          let jobs : other ≡ job = ap (λ o. unwrap_or o other) (sym there ∙ ap (slice_get first.layout.jobs.items) same ∙ e) in
          absurd (false≢true (sym (sym (as_at_first t at job h.copied e) ∙ none) ∙ ap (is_copied (farm_of s) (records_of first) spread) (sym jobs) ∙ copied))

  -- at the end all are copied
  module _ (t : Tables) (last : NodeNo) (at : ℕ) (h : IsCopying s counts spread first t last at) (past : (k : ℕ) → k < get_or first.ends.items spread.node.0 0 → k < length first.layout.jobs.items → k < at) where
    before : (k : ℕ) (job : Job) → slice_get first.layout.jobs.items k ≡ Some job → is_copied (farm_of s) (records_of first) spread job ≡ true → k < at
    before k job e is = past k (kept.ended spread.node.0 k job e (is_under s spread (records_of first) job is)) (slice_get_within first.layout.jobs.items k job e)

    pub copying_last : (job : Job) → is_copied (farm_of s) (records_of first) spread job ≡ true → node_of job ≤ last.0
    copying_last job is =
        let k = place_in first.layout.places.items job in
        let e = there s spread first.layout.jobs.items first.layout.places.items kept.layout (records_of first) job is in
        h.most k job (before k job e is) e is

    none_past : (k : ℕ) (job : Job) → at ≤ k → slice_get first.layout.jobs.items k ≡ Some job → is_copied (farm_of s) (records_of first) spread job ≡ false
    none_past k job least e = by (is_copied (farm_of s) (records_of first) spread job) refl
      where
        by : (b : Bool) → is_copied (farm_of s) (records_of first) spread job ≡ b → b ≡ false
        by true is = let less = before k job e is in absurd (omega (arith, less, least))
        by false is = refl

    all_copied : AreCopied s counts spread first t (at + length first.layout.jobs.items)
    all_copied = copied_to t at (at + length first.layout.jobs.items) h.copied (omega arith) (λ k job least less e. none_past k job least e)

    pub copied_records : records_of t ≡ with_copies (farm_of s) (Some spread) (records_of first)
    copied_records = all_copied.records ∙ copied_all s spread first.layout.jobs.items first.layout.places.items kept.layout (records_of first) (at + length first.layout.jobs.items) (omega arith)

    pub copied_journal : t.journal.items ≡ first.journal.items ++ copies (farm_of s) (Some spread) (records_of first)
    copied_journal =
        all_copied.journal
        ∙ ap (λ js. first.journal.items ++ js) (entries_all s spread first.layout.jobs.items first.layout.places.items kept.layout (records_of first) (at + length first.layout.jobs.items) (omega arith))

-- ---- images

-- the tables where the images of the nodes from `at` on that no job needs are given back
pub record AreRetired (s : Conditions) (counts : Held → Header) (first t : Tables) (at : ℕ) : Type 0 where
  pub records : records_of t ≡ kept_below s (records_of first) at
  pub journal : t.journal.items ++ retirings_below s (records_of first) at ≡ first.journal.items ++ retirings (farm_of s) (records_of first)
  pub tables : AreTables s.plan counts t
  pub within : at ≤ length s.plan

module _ (s : Conditions) (counts : Held → Header) (first : Tables) (kept : AreTables s.plan counts first) where
  pub retired_first : AreRetired s counts first first (length s.plan)
  retired_first = record {
    records = sym (kept_all s (records_of first) (length s.plan) (All-map (λ (h : Held). h.node.0 < length s.plan) held_of first.held.items kept.within));
    journal = refl;
    tables = kept;
    within = omega arith;
  }

  pub retired_one : (t new : Tables) (at : ℕ) → AreRetired s counts first t (at + 1)
      → records_of new ≡ (if is_retired (farm_of s) (records_of t) (node_no at) then record (records_of t) { held = without_image (node_no at) (records_of t).held } else records_of t)
      → new.journal.items ≡ t.journal.items ++ (if is_retired (farm_of s) (records_of t) (node_no at) then Retire (node_no at) ∷ [] else [])
      → AreTables s.plan counts new → AreRetired s counts first new at
  retired_one t new at h records journal tables =
      let r = records_of first in
      let below = kept_below s r (at + 1) in
      let within = h.within in
      record {
        records = records ∙ ap (λ (x : Records). if is_retired (farm_of s) x (node_no at) then record x { held = without_image (node_no at) x.held } else x) h.records
            ∙ kept_step s r at (is_retired (farm_of s) below (node_no at)) refl;
        journal = ap (λ js. js ++ retirings_below s r at) journal
            ∙ append_assoc t.journal.items (if is_retired (farm_of s) (records_of t) (node_no at) then Retire (node_no at) ∷ [] else []) (retirings_below s r at)
            ∙ ap (λ js. t.journal.items ++ js) (ap (λ (x : Records). (if is_retired (farm_of s) x (node_no at) then Retire (node_no at) ∷ [] else []) ++ retirings_below s r at) h.records
            ∙ sym (retirings_step s r at (is_retired (farm_of s) below (node_no at)) refl))
            ∙ h.journal;
        tables = tables;
        within = omega (arith, within);
      }

  retired_past : (t : Tables) (at : ℕ) → AreRetired s counts first t (at + 1) → is_retired (farm_of s) (records_of first) (node_no at) ≡ false → AreRetired s counts first t at
  retired_past t at h e =
      let r = records_of first in
      let retired = same_retired s r at ∙ e in
      let within = h.within in
      record {
        records = h.records ∙ kept_step s r at false retired;
        journal = ap (λ js. t.journal.items ++ js) (sym (retirings_step s r at false retired)) ∙ h.journal;
        tables = h.tables;
        within = omega (arith, within);
      }

  -- past nodes without an image that no job needs
  pub retired_to : (t : Tables) (to at : ℕ) → to ≤ at → AreRetired s counts first t at
      → ((n : ℕ) → to ≤ n → n < at → is_retired (farm_of s) (records_of first) (node_no n) ≡ false) → AreRetired s counts first t to
  retired_to t to zero h a none = subst (AreRetired s counts first t) (let same : zero ≡ to = omega (arith, h) in same) a
  retired_to t to (suc at) h a none = by (nat_lt at to) refl (retired_to t to at)
    where
      by : (b : Bool) → nat_lt at to ≡ b
          → (to ≤ at → AreRetired s counts first t at → ((n : ℕ) → to ≤ n → n < at → is_retired (farm_of s) (records_of first) (node_no n) ≡ false) → AreRetired s counts first t to)
          → AreRetired s counts first t to
      by true e further =
          let same : suc at ≡ to = (let less = ltb-true at to e in omega (arith, h, less)) in
          subst (AreRetired s counts first t) same a
      by false e further =
          let least = ltb-false at to e in
          let one : suc at ≡ at + 1 = omega arith in
          further (omega (arith, least)) (retired_past t at (subst (AreRetired s counts first t) one a) (none at (omega (arith, least)) (omega arith)))
          (λ n low less. none n low (omega (arith, less)))

  pub retired_records : (t : Tables) → AreRetired s counts first t 0 → records_of t ≡ without_unneeded (farm_of s) (records_of first)
  retired_records t h = h.records ∙ kept_none s (records_of first)

  pub retired_journal : (t : Tables) → AreRetired s counts first t 0 → t.journal.items ≡ first.journal.items ++ retirings (farm_of s) (records_of first)
  retired_journal t h = sym (append-nil t.journal.items) ∙ h.journal

-- ---- one image less

pub fewer : (node : NodeNo) (images : List HeldImage) → is_some (find (λ (h : Held). h.node.0 == node.0) (map held_of images)) ≡ true
    → length (filter (λ (h : HeldImage). not (h.node.0 == node.0)) images) + 1 ≤ length images
fewer node images e =
    let less = without_one (λ (h : Held). h.node.0 == node.0) (map held_of images) e in
    let same = ap length (map_filter held_of (λ (h : HeldImage). not (h.node.0 == node.0)) (λ (h : Held). not (h.node.0 == node.0)) (λ h. refl) images) in
    let long = length-map images held_of in
    let new_long = length-map (filter (λ (h : HeldImage). not (h.node.0 == node.0)) images) held_of in
    omega (arith, less, same, long, new_long)
