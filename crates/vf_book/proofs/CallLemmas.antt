-- What the calls of a book have in common: from the book's value to what it is made of, and back.
use Rattle.std.proofs.Common.{◌≡◌, ℕ, zero, suc, ◌<◌, ◌≤◌, ◌==◌, Bool, true, false, not, if◌then◌else◌, List, [], ◌∷◌, length, Option, Some, None, is_some, replicate, refl, sym, ap, ◌∙◌, arith, subst, inl, inr, ◌⊎◌}
use Rattle.std.specs.Prelude.{slice_set}
use Rattle.std.specs.List.{find}
use Rattle.std.proofs.lemmas.Bool.{cases_lt, eqb-true, eqb-false}
use Rattle.std.proofs.lemmas.List.{get_or-set_other, get_or_past, length-set}
use Rattle.vf_base.specs.declared.names.Job.{Job}
use Rattle.vf_base.specs.declared.names.NodeNo.{NodeNo}
use Rattle.vf_base.specs.declared.run.Ending.{Ending}
use Rattle.vf_base.specs.declared.run.Header.{Header}
use Rattle.vf_base.specs.declared.run.Outcome.TheVariants.{Done}
use Rattle.vf_frames.specs.declared.holder.Name.{Name}
use Rattle.vf_frames.specs.declared.holder.Holder.{Holder}
use Rattle.vf_frames.specs.Holders.{Keeps}
use Rattle.vf_jobs.specs.Jobs.{node_of, node_no}
use Rattle.vf_jobs.specs.Setup.{Conditions}
use Rattle.vf_journal.specs.declared.entry.Entry.{Entry}
use Rattle.vf_journal.specs.declared.entry.Entry.TheVariants.{Pass, End, Pages, Lost, Evict}
use Rattle.vf_journal.specs.Records.{Held, Records, at_first, image_of}
use Rattle.vf_journal.specs.Effects.{IsAlone}
use Rattle.vf_journal.specs.Journal.{replay}
use Rattle.vf_records.specs.Account.{Account, solo_of, records_in, IsLawful}
use Rattle.vf_image.specs.Images.{Checkpoint}
use Rattle.vf_image.specs.Runs.{touched_in}
use Rattle.vf_image.specs.Simulators.{Simulator, IsSimulator}
use Rattle.vf_image.specs.Standing.{IsPassing, IsEnding, IsOver}
use Rattle.vf_book.specs.Book.{BookView, image_at, holders, Fits, IsBook, AreOf, Serves, Appends}
use Rattle.vf_book.specs.Attempts.{IsOpen, IsWithin}
use Rattle.vf_book.proofs.HolderLemmas.{none-left}
use Rattle.vf_book.proofs.ImageLemmas.{find_filtered}
use Rattle.vf_book.proofs.Entries.{lost_lawful, pass_lawful, end_lawful, end_counts, end_outcome, pages_lawful}

-- ---- what a book is made of

abbrev pub made_of : Account → List (Option Checkpoint) → BookView
made_of a images = record { account = a; images = images }

module _ (a : Account) (images : List (Option Checkpoint)) (v : BookView) (is : made_of a images ≡ v) where
  pub inside_open : (s : Simulator) → IsOpen v.account s → IsOpen a s
  inside_open s runs = subst (λ (x : BookView). IsOpen x.account s) (sym is) runs

  pub inside_images : (pool : Name) → AreOf pool v.images → AreOf pool images
  inside_images pool all = subst (λ (x : BookView). AreOf pool x.images) (sym is) all

  pub outside_appends : (e : Entry) (b : Account) → Appends e a b → Appends e v.account b
  outside_appends e b made = subst (λ (x : BookView). Appends e x.account b) is made

  pub outside_keeps : (n m : Option (List ℕ)) (hand sim : Holder) (ys : List Holder) → Keeps n (hand ∷ sim ∷ holders images) m ys → Keeps n (hand ∷ sim ∷ holders v.images) m ys
  outside_keeps n m hand sim ys k = subst (λ (x : BookView). Keeps n (hand ∷ sim ∷ holders x.images) m ys) is k

  pub outside_keeps_hand : (n m : Option (List ℕ)) (hand : Holder) (ys : List Holder) → Keeps n (hand ∷ holders images) m ys → Keeps n (hand ∷ holders v.images) m ys
  outside_keeps_hand n m hand ys k = subst (λ (x : BookView). Keeps n (hand ∷ holders x.images) m ys) is k

-- the pool serves the book as it is after an entry
pub serves_after : (pool pool' : Name) (v v' : BookView) (h h' : Holder) (e : Entry) → Serves pool v h → Appends e v.account v'.account → pool' ≡ pool → h'.name ≡ h.name → AreOf pool' v'.images
    → Serves pool' v' h'
serves_after pool pool' v v' h h' e before made same hand images = record {
  frames = ap (λ (n : Name). n.frames) same ∙ before.frames ∙ ap (λ (a : Account). a.setup.budget) (sym made.account);
  hand = hand ∙ before.hand ∙ sym same;
  images = images;
}

-- the pages that a simulator has touched are within the budget, since they are frames of the pool
pub within_budget : (pool : Name) (v : BookView) (h : Holder) (s : Simulator) → Serves pool v h → IsOpen v.account s → s.pages.holder.name ≡ pool
    → touched_in s.setup s.job s.header.turns ≤ s.pages.holder.name.frames → IsWithin s
within_budget pool v h s serves runs name touched =
    let frames = ap (λ (n : Name). n.frames) name in
    let budget = ap (λ (c : Conditions). c.budget) runs.setup in
    omega (arith, touched, frames, serves.frames, budget)

-- ---- entries of simulators, whose job and counts were told

node_is : (n : NodeNo) (job : Job) → n.0 ≡ node_of job → n ≡ record { 0 = node_of job }
node_is n job e = ap node_no e

module _ (a : Account) (s : Simulator) (runs : IsOpen a s) (kept : IsSimulator s) (job : Job) (header : Header) (is_job : job ≡ s.job) (is_header : header ≡ s.header) where
  pub may_lose : IsLawful a (Lost job header.turns)
  may_lose =
      subst (λ (j : Job). IsLawful a (Lost j header.turns)) (sym is_job)
      (subst (λ (h : Header). IsLawful a (Lost s.job h.turns)) (sym is_header) (lost_lawful a s runs kept))

  pub may_pass : (node : NodeNo) → IsWithin s → IsPassing s (record { 0 = node_of s.job }) → node.0 ≡ node_of job → IsLawful a (Pass node header.turns)
  may_pass node within passing is_node =
      subst (λ (n : NodeNo). IsLawful a (Pass n header.turns)) (sym (node_is node job is_node ∙ ap (λ (j : Job). node_no (node_of j)) is_job))
      (subst (λ (h : Header). IsLawful a (Pass (record { 0 = node_of s.job }) h.turns)) (sym is_header) (pass_lawful a s (record { 0 = node_of s.job }) runs kept within passing))

  pub may_end : (ending : Ending) (turns : ℕ) → IsWithin s → IsEnding s ending turns → IsLawful a (End job turns)
  may_end ending turns within ends = subst (λ (j : Job). IsLawful a (End j turns)) (sym is_job) (end_lawful a s ending turns runs kept within ends)

  pub counts_end : (ending : Ending) (turns : ℕ) → IsWithin s → IsEnding s ending turns
      → record { turns = turns; reads = header.reads; written = header.written } ≡ (solo_of a.setup).ending job
  counts_end ending turns within ends =
      ap (λ (h : Header). record { turns = turns; reads = h.reads; written = h.written }) is_header ∙ end_counts a s ending turns runs kept ends ∙ ap (solo_of a.setup).ending (sym is_job)

  pub outcome_end : (ending : Ending) (turns : ℕ) (text : List ℕ) → IsWithin s → IsEnding s ending turns → text ≡ s.text
      → Done ending text turns ≡ (solo_of a.setup).outcome job
  outcome_end ending turns text within ends is_text =
      ap (λ t. Done ending t turns) is_text ∙ end_outcome a s ending turns runs kept within ends ∙ ap (solo_of a.setup).outcome (sym is_job)

  pub may_pass_budget : (pages : ℕ) → IsWithin s → IsOver s pages → IsAlone (records_in a) s.job → (records_in a).held ≡ [] → IsLawful a (Pages job header.turns pages)
  may_pass_budget pages within over alone none =
      subst (λ (j : Job). IsLawful a (Pages j header.turns pages)) (sym is_job)
      (subst (λ (h : Header). IsLawful a (Pages s.job h.turns pages)) (sym is_header) (pages_lawful a s pages runs kept within over alone none))

-- ---- a new book

nothing_done : (c : Conditions) → records_in (record { setup = c; journal = [] }) ≡ at_first
unfolding replay
nothing_done c = refl

none_at : (k n : ℕ) → image_at (replicate k None) n ≡ None
none_at zero n = refl
none_at (suc k) zero = refl
none_at (suc k) (suc n) = none_at k n

length_none : (k : ℕ) (x : Option Checkpoint) → length (replicate k x) ≡ k
length_none zero x = refl
length_none (suc k) x = ap suc (length_none k x)

pub new_book : (c : Conditions) (a : Account) (images : List (Option Checkpoint)) → a ≡ record { setup = c; journal = [] } → images ≡ replicate (length c.plan) None → IsBook (made_of a images)
new_book c a images is none =
    subst (λ (x : Account). IsBook (made_of x images)) (sym is)
    (subst (λ xs. IsBook (made_of (record { setup = c; journal = [] }) xs)) (sym none)
    record {
      long = length_none (length c.plan) None;
      held = λ n.
          subst (λ i. Fits c i (image_of (records_in (record { setup = c; journal = [] })) (node_no n))) (sym (none_at (length c.plan) n))
          (subst (λ (r : Records). Fits c None (image_of r (node_no n))) (sym (nothing_done c)) tt);
    })

-- ---- an image that is given back

-- a place whose image is held is inside
pub held_inside : (b : BookView) (node : NodeNo) → IsBook b → is_some (image_of (records_in b.account) node) ≡ true → node.0 < length b.images
held_inside b node book held = by (cases_lt node.0 (length b.images))
  where
    some_fits : (c : Conditions) (i : Option Checkpoint) (h : Option Held) → i ≡ None → is_some h ≡ true → Fits c i h → ⊥
    some_fits c None None e s fits = cc
    some_fits c None (Some h) e s fits = fits
    some_fits c (Some i) h e s fits = cc

    by : (node.0 < length b.images) ⊎ (length b.images ≤ node.0) → node.0 < length b.images
    by (inl below) = below
    by (inr past) = absurd (some_fits b.account.setup (image_at b.images node.0) (image_of (records_in b.account) node) (get_or_past b.images node.0 None past) held (book.held node.0))

fit_evicted : (c : Conditions) (images : List (Option Checkpoint)) (n m : ℕ) (h : Option Held) (same : Bool) → (n == m) ≡ same → Fits c (image_at images n) h
    → Fits c (image_at (slice_set images m None) n) (if not same then h else None)
fit_evicted c images n m h true e fits =
    let gone : image_at (slice_set images m None) n ≡ None = ap (image_at (slice_set images m None)) (eqb-true n m e) ∙ none-left images m in
    subst (λ i. Fits c i None) (sym gone) tt
fit_evicted c images n m h false e fits = subst (λ i. Fits c i h) (sym (get_or-set_other images m n None None (eqb-false n m e))) fits

pub evicted_book : (a b : Account) (images : List (Option Checkpoint)) (node : NodeNo) → IsBook (made_of a images) → Appends (Evict node) a b → IsBook (made_of b (slice_set images node.0 None))
evicted_book a b images node book made = record {
  long = length-set images node.0 None ∙ book.long ∙ ap (λ (x : Account). length x.setup.plan) (sym made.account);
  held = λ n.
      let found : image_of (records_in b) (node_no n) ≡ (if not (n == node.0) then image_of (records_in a) (node_no n) else None) =
      ap (λ (r : Records). image_of r (node_no n)) made.records ∙ find_filtered n (λ (m : NodeNo). not (m.0 == node.0)) (records_in a).held in
      subst (λ (x : Account). Fits x.setup (image_at (slice_set images node.0 None) n) (image_of (records_in b) (node_no n))) (sym made.account)
      (subst (Fits a.setup (image_at (slice_set images node.0 None) n)) (sym found)
      (fit_evicted a.setup images n node.0 (image_of (records_in a) (node_no n)) (n == node.0) refl (book.held n)));
}

-- all places are empty
pub holders-gone : (images : List (Option Checkpoint)) → ((n : ℕ) → n < length images → image_at images n ≡ None) → holders images ≡ []
holders-gone [] gone = refl
holders-gone (None ∷ more) gone = holders-gone more (λ n below. gone (suc n) (omega (arith, below)))
holders-gone (Some i ∷ more) gone = let none = gone 0 (omega arith) in cc

-- ---- the entry, told by the simulator itself

module _ (s : Simulator) (job : Job) (header : Header) (is_job : job ≡ s.job) (is_header : header ≡ s.header) (a b : Account) where
  pub passed_as : (node : NodeNo) → node.0 ≡ node_of job → Appends (Pass node header.turns) a b → Appends (Pass (record { 0 = node_of s.job }) s.header.turns) a b
  passed_as node is_node made =
      subst (λ (n : NodeNo). Appends (Pass n s.header.turns) a b) (node_is node job is_node ∙ ap (λ (j : Job). node_no (node_of j)) is_job)
      (subst (λ (h : Header). Appends (Pass node h.turns) a b) is_header made)

  pub pages_as : (pages : ℕ) → Appends (Pages job header.turns pages) a b → Appends (Pages s.job s.header.turns pages) a b
  pages_as pages made =
      subst (λ (j : Job). Appends (Pages j s.header.turns pages) a b) is_job
      (subst (λ (h : Header). Appends (Pages job h.turns pages) a b) is_header made)

-- no image is there where none is held
pub none_held : (b : BookView) → IsBook b → (records_in b.account).held ≡ [] → holders b.images ≡ []
none_held b book none =
    holders-gone b.images
    (λ n below. gone (image_at b.images n) (image_of (records_in b.account) (node_no n)) (ap (λ (hs : List Held). find (λ (h : Held). h.node.0 == n) hs) none) (book.held n))
  where
    gone : (o : Option Checkpoint) (h : Option Held) → h ≡ None → Fits b.account.setup o h → o ≡ None
    gone None h e fits = refl
    gone (Some i) None e fits = absurd fits
    gone (Some i) (Some h) e fits = cc
