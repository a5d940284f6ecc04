-- The statuses, the other way round: each other answer contradicts what is given.
use Rattle.std.proofs.Common.{◌≡◌, ℕ, ◌<◌, ◌≤◌, Bool, false, not, nat_lt, if◌then◌else◌, List, length, Option, Some, None, Ok, Err, refl, sym, ◌∙◌, ap, subst, arith, inl, inr, ◌⊎◌}
use Rattle.std.proofs.lemmas.Bool.{lt-ltb, le-ltb}
use Rattle.vf_design.specs.Program.{Program}
use Rattle.vf_early.specs.Early.{IsEarly}
use Rattle.vf_plan.specs.declared.plan.Node.{Node}
use Rattle.vf_plan.specs.Reading.{plan_of}
use Rattle.vf_base.specs.Count.{Count}
use Rattle.vf_ports.specs.Shelf.{Told, ShelfState, IsFile}
use Rattle.vf_report.specs.Report.{outcomes_in, totals_of, solo_totals}
use Rattle.vf_words.specs.declared.command.Asked.{Asked}
use Rattle.vf_words.specs.declared.command.Asked.TheVariants.{Help, Version, Work}
use Rattle.vf_words.specs.declared.command.Command.{Command}
use Rattle.vf_words.specs.declared.fault.WordFault.{WordFault}
use Rattle.vf_words.specs.Words.{command_of}
use Rattle.vf_top.specs.declared.refusal.What.TheVariants.{Design, Plan}
use Rattle.vf_top.specs.declared.refusal.Refusal.{Refusal}
use Rattle.vf_top.specs.declared.refusal.Refusal.TheVariants.{WrongWords, Failed, TooLong, DesignNotBuilt, NoTop, WrongPlan, NoTest, Write, Memory}
use Rattle.vf_top.specs.Fault.{status_of, limit_of}
use Rattle.vf_top.specs.Report.{is_top, alone, AreAlone, test_of, status_of_totals}
use Rattle.vf_top.specs.Inputs.{IsInput, IsLong, HasFiles, HasDesign, HasPlanFile, IsAccepted}
use Rattle.vf_top.specs.Work.{RunsFarm, Checks, RunsAlone, Works, help, version, run, check, solo}
use Rattle.vf_top.specs.Answer.{World, Answers, Cause}
use Rattle.vf_top.specs.Promise.{IsGiven, NoFault, Spells, IsUnlessMemory, WordsExact, PagesExact, WorkExact, solo_status, mode_status, plan_status, design_status, status_for}
use Rattle.vf_top.proofs.TotalLemmas.{whole_status, not_two}

-- ---- what the words ask for

-- the work that is done, and each refusal but that of the words, come with words that are accepted
works_asked : (words : List (List ℕ)) (shelf : ShelfState) (from to : Count) (text : List ℕ) (status : ℕ) → Works words shelf from to text status → (asked : Asked) × (command_of words ≡ Ok asked)
works_asked words shelf from to text status (help asked t s c) = (Help, asked)
works_asked words shelf from to text status (version asked t s c) = (Version, asked)
works_asked words shelf from to text status (run r) = (Work r.command, r.accepted.file.design.files.asked)
works_asked words shelf from to text status (check r) = (Work r.command, r.accepted.file.design.files.asked)
works_asked words shelf from to text status (solo r) = (Work r.command, r.accepted.file.design.files.asked)

clash : (words : List (List ℕ)) (fault : WordFault) (asked : Asked) → command_of words ≡ Err fault → command_of words ≡ Ok asked → ⊥
clash words fault asked refused accepted = let e = sym refused ∙ accepted in cc

refused_by : (words : List (List ℕ)) (before after : World) (fault : WordFault) (refusal : Refusal) → command_of words ≡ Err fault → Cause words before after refusal → IsUnlessMemory 2 (status_of refusal)
refused_by words before after fault (WrongWords other) refused cause = inl refl
refused_by words before after fault (Failed Design) refused cause = absurd (clash words fault (Work cause.0) refused cause.2.asked)
refused_by words before after fault (Failed Plan) refused cause = absurd (clash words fault (Work cause.0) refused cause.3.files.asked)
refused_by words before after fault (TooLong Design) refused cause = absurd (clash words fault (Work cause.0) refused cause.2.asked)
refused_by words before after fault (TooLong Plan) refused cause = absurd (clash words fault (Work cause.0) refused cause.3.files.asked)
refused_by words before after fault DesignNotBuilt refused cause = absurd (clash words fault (Work cause.0) refused cause.3.asked)
refused_by words before after fault NoTop refused cause = absurd (clash words fault (Work cause.0) refused cause.4.asked)
refused_by words before after fault (WrongPlan other) refused cause = absurd (clash words fault (Work cause.0) refused cause.3.design.files.asked)
refused_by words before after fault (NoTest name) refused cause = absurd (clash words fault (Work cause.0) refused cause.3.file.design.files.asked)
refused_by words before after fault Write refused cause =
    let asked = works_asked words before.shelf before.steps after.steps cause.0 cause.1 cause.2 in
    absurd (clash words fault asked.0 refused asked.1)
refused_by words before after fault Memory refused cause = inr refl

two_by : (words : List (List ℕ)) (before after : World) (refusal : Refusal) → status_of refusal ≡ 2 → Cause words before after refusal → (fault : WordFault) × (command_of words ≡ Err fault)
two_by words before after (WrongWords fault) e cause = (fault, cause)
two_by words before after (Failed what) e cause = absurd (omega arith)
two_by words before after (TooLong what) e cause = absurd (omega arith)
two_by words before after DesignNotBuilt e cause = absurd (omega arith)
two_by words before after NoTop e cause = absurd (omega arith)
two_by words before after (WrongPlan fault) e cause = absurd (omega arith)
two_by words before after (NoTest name) e cause = absurd (omega arith)
two_by words before after Write e cause = absurd (omega arith)
two_by words before after Memory e cause = absurd (omega arith)

works_two : (words : List (List ℕ)) (shelf : ShelfState) (from to : Count) (text : List ℕ) (status : ℕ) → Works words shelf from to text status → status ≡ 2 → ⊥
works_two words shelf from to text status (help asked t s c) two = omega (arith, s, two)
works_two words shelf from to text status (version asked t s c) two = omega (arith, s, two)
works_two words shelf from to text status (run r) two = not_two (totals_of (outcomes_in r.account) r.nodes) (sym r.status ∙ two)
works_two words shelf from to text status (check r) two = let s = r.status in omega (arith, s, two)
works_two words shelf from to text status (solo r) two = not_two (solo_totals r.test (alone r.command r.p r.nodes r.n)) (sym r.status ∙ two)

pub words_exact : (words : List (List ℕ)) (before after : World) (status : ℕ) → Answers words before after status → WordsExact words status
words_exact words before after status (inl done) = record {
  refused = λ fault refused. let asked = works_asked words before.shelf before.steps after.steps done.text status done.works in absurd (clash words fault asked.0 refused asked.1);
  only = λ two. absurd (works_two words before.shelf before.steps after.steps done.text status done.works two);
}
words_exact words before after status (inr refused) = record {
  refused = λ fault wrong. subst (IsUnlessMemory 2) (sym refused.is) (refused_by words before after fault refused.refusal wrong refused.cause);
  only = λ two. two_by words before after refused.refusal (sym refused.is ∙ two) refused.cause;
}

-- ---- the help page and the version's line

abbrev IsPage : Asked → Type 0
IsPage Help = Unit {0}
IsPage Version = Unit {0}
IsPage (Work command) = ⊥

no_work : (words : List (List ℕ)) (asked : Asked) (command : Command) → IsPage asked → command_of words ≡ Ok asked → command_of words ≡ Ok (Work command) → ⊥
no_work words Help command page asked work = let e = sym asked ∙ work in cc
no_work words Version command page asked work = let e = sym asked ∙ work in cc
no_work words (Work other) command page asked work = absurd page

page_by : (words : List (List ℕ)) (before after : World) (asked : Asked) (refusal : Refusal) → IsPage asked → command_of words ≡ Ok asked → NoFault before after → Cause words before after refusal
    → IsUnlessMemory 0 (status_of refusal)
page_by words before after asked (WrongWords fault) page is none cause = absurd (clash words fault asked cause is)
page_by words before after asked (Failed Design) page is none cause = absurd (no_work words asked cause.0 page is cause.2.asked)
page_by words before after asked (Failed Plan) page is none cause = absurd (no_work words asked cause.0 page is cause.3.files.asked)
page_by words before after asked (TooLong Design) page is none cause = absurd (no_work words asked cause.0 page is cause.2.asked)
page_by words before after asked (TooLong Plan) page is none cause = absurd (no_work words asked cause.0 page is cause.3.files.asked)
page_by words before after asked DesignNotBuilt page is none cause = absurd (no_work words asked cause.0 page is cause.3.asked)
page_by words before after asked NoTop page is none cause = absurd (no_work words asked cause.0 page is cause.4.asked)
page_by words before after asked (WrongPlan fault) page is none cause = absurd (no_work words asked cause.0 page is cause.3.design.files.asked)
page_by words before after asked (NoTest name) page is none cause = absurd (no_work words asked cause.0 page is cause.3.file.design.files.asked)
page_by words before after asked Write page is none cause = absurd (none.out cause.3.rose)
page_by words before after asked Memory page is none cause = inr refl

page_works : (words : List (List ℕ)) (shelf : ShelfState) (from to : Count) (text : List ℕ) (status : ℕ) (asked : Asked) → IsPage asked → command_of words ≡ Ok asked
    → Works words shelf from to text status → IsUnlessMemory 0 status
page_works words shelf from to text status asked page is (help a t s c) = inl s
page_works words shelf from to text status asked page is (version a t s c) = inl s
page_works words shelf from to text status asked page is (run r) = absurd (no_work words asked r.command page is r.accepted.file.design.files.asked)
page_works words shelf from to text status asked page is (check r) = absurd (no_work words asked r.command page is r.accepted.file.design.files.asked)
page_works words shelf from to text status asked page is (solo r) = absurd (no_work words asked r.command page is r.accepted.file.design.files.asked)

page_exact : (words : List (List ℕ)) (before after : World) (status : ℕ) (asked : Asked) → IsPage asked → Answers words before after status → command_of words ≡ Ok asked → NoFault before after → IsUnlessMemory 0 status
page_exact words before after status asked page (inl done) is none = page_works words before.shelf before.steps after.steps done.text status asked page is done.works
page_exact words before after status asked page (inr refused) is none =
    subst (IsUnlessMemory 0) (sym refused.is) (page_by words before after asked refused.refusal page is none refused.cause)

pub pages_exact : (words : List (List ℕ)) (before after : World) (status : ℕ) → Answers words before after status → PagesExact words before after status
pages_exact words before after status answer (inl asked) none = page_exact words before after status Help tt answer asked none
pages_exact words before after status answer (inr asked) none = page_exact words before after status Version tt answer asked none

-- ---- what is given is what was read

same_command : (words : List (List ℕ)) (a b : Command) → command_of words ≡ Ok (Work a) → command_of words ≡ Ok (Work b) → a ≡ b
same_command words a b ea eb = let e = sym ea ∙ eb in cc

same_names : (o : Option (List ℕ × List ℕ)) (a b : List ℕ × List ℕ) → o ≡ Some a → o ≡ Some b → a ≡ b
same_names o a b ea eb = let e = sym ea ∙ eb in cc

module _ (words : List (List ℕ)) (shelf : ShelfState) (command : Command) (design plan : List ℕ) (given : IsGiven words shelf command design plan) where
  same_files : (other : Command) (names : List ℕ × List ℕ) → HasFiles words other names → (other ≡ command) × (names ≡ given.names)
  same_files other names files =
      let same = same_command words other command files.asked given.files.asked in
      (same, same_names command.files names given.names (ap (λ (c : Command). c.files) (sym same) ∙ files.named) given.files.named)

  given_design : (names : List ℕ × List ℕ) (bytes : List ℕ) → names ≡ given.names → IsInput shelf names.0 (limit_of Design) bytes → (bytes ≡ design) × (length design ≤ limit_of Design)
  given_design names bytes same input =
      let is : bytes ≡ design = subst (λ (told : Told). IsFile told bytes) (ap (λ (n : List ℕ × List ℕ). shelf.holds n.0) same ∙ given.design_told) input.is in
      (is, omega (arith, ap length is, input.fits))

  given_plan : (names : List ℕ × List ℕ) (bytes : List ℕ) → names ≡ given.names → IsInput shelf names.1 (limit_of Plan) bytes → (bytes ≡ plan) × (length plan ≤ limit_of Plan)
  given_plan names bytes same input =
      let is : bytes ≡ plan = subst (λ (told : Told). IsFile told bytes) (ap (λ (n : List ℕ × List ℕ). shelf.holds n.1) same ∙ given.plan_told) input.is in
      (is, omega (arith, ap length is, input.fits))

  long_design : (names : List ℕ × List ℕ) → names ≡ given.names → IsLong (shelf.holds names.0) (limit_of Design) → limit_of Design < length design
  long_design names same long = subst (λ (told : Told). IsLong told (limit_of Design)) (ap (λ (n : List ℕ × List ℕ). shelf.holds n.0) same ∙ given.design_told) long

  long_plan : (names : List ℕ × List ℕ) → names ≡ given.names → IsLong (shelf.holds names.1) (limit_of Plan) → limit_of Plan < length plan
  long_plan names same long = subst (λ (told : Told). IsLong told (limit_of Plan)) (ap (λ (n : List ℕ × List ℕ). shelf.holds n.1) same ∙ given.plan_told) long

  -- the status where the design is accepted
  module _ (one_program : (bytes : List ℕ) (slots : ℕ) (one other : Program) → IsEarly bytes slots one → IsEarly bytes slots other → one ≡ other)
      (program : Option Program) (spells : length design ≤ limit_of Design → Spells command.slots design program) where
    early_is : (program : Option Program) (p : Program) → Spells command.slots design program → IsEarly design command.slots p → program ≡ Some p
    early_is None p spells early = absurd (spells p early)
    early_is (Some q) p spells early = ap (λ x. Some x) (one_program design command.slots q p spells early)

    none_is : (program : Option Program) → Spells command.slots design program → ((p : Program) → IsEarly design command.slots p → ⊥) → program ≡ None
    none_is None spells none = refl
    none_is (Some q) spells none = absurd (none q spells)

    abbrev by_program : Option Program → ℕ
    by_program program = elim program [ None ↦ 3 | Some p ↦ design_status command p plan ]

    long_status : limit_of Design < length design → status_for command design plan program ≡ 6
    long_status long = ap (λ b. if b then 6 else by_program program) (lt-ltb (limit_of Design) (length design) long)

    short_status : length design ≤ limit_of Design → status_for command design plan program ≡ by_program program
    short_status short = ap (λ b. if b then 6 else by_program program) (le-ltb (limit_of Design) (length design) short)

    none_status : length design ≤ limit_of Design → ((p : Program) → IsEarly design command.slots p → ⊥) → status_for command design plan program ≡ 3
    none_status short none = short_status short ∙ ap by_program (none_is program (spells short) none)

    some_status : (p : Program) → length design ≤ limit_of Design → IsEarly design command.slots p → status_for command design plan program ≡ design_status command p plan
    some_status p short early = short_status short ∙ ap by_program (early_is program p (spells short) early)

    abbrev by_length : Program → Bool → ℕ
    by_length p long = if long then 6 else plan_status command p (plan_of plan)

    top_status : (p : Program) → length design ≤ limit_of Design → IsEarly design command.slots p → is_top command.top p ≡ false → status_for command design plan program ≡ 3
    top_status p short early other =
        some_status p short early ∙ ap (λ b. if not b then 3 else by_length p (nat_lt (limit_of Plan) (length plan))) other

    design_read : (names : List ℕ × List ℕ) (p : Program) → HasDesign words shelf command names p → status_for command design plan program ≡ by_length p (nat_lt (limit_of Plan) (length plan))
    design_read names p d =
        let same = same_files command names d.files in
        let is = given_design names d.bytes same.1 d.input in
        some_status p is.1 (subst (λ (bytes : List ℕ). IsEarly bytes command.slots p) is.0 d.early)
        ∙ ap (λ b. if not b then 3 else by_length p (nat_lt (limit_of Plan) (length plan))) d.top

    plan_read : (p : Program) (bytes : List ℕ) → HasPlanFile words shelf command p bytes → status_for command design plan program ≡ plan_status command p (plan_of bytes)
    plan_read p bytes file =
        let same = same_files command file.names file.design.files in
        let is = given_plan file.names bytes same.1 file.input in
        design_read file.names p file.design ∙ ap (by_length p) (le-ltb (limit_of Plan) (length plan) is.1) ∙ ap (λ b. plan_status command p (plan_of b)) (sym is.0)

    accepted_status : (p : Program) (nodes : List Node) → IsAccepted words shelf command p nodes → status_for command design plan program ≡ mode_status command p nodes command.mode
    accepted_status p nodes a = plan_read p a.bytes a.file ∙ ap (plan_status command p) a.plan

    -- what is done has this status
    run_status : (from to : Count) (text : List ℕ) (status : ℕ) → RunsFarm words shelf from to text status → IsUnlessMemory (status_for command design plan program) status
    run_status from to text status r =
        let same = (same_files r.command r.accepted.file.names r.accepted.file.design.files).0 in
        let expected = accepted_status r.p r.nodes (subst (λ (c : Command). IsAccepted words shelf c r.p r.nodes) same r.accepted)
        ∙ ap (mode_status command r.p r.nodes) (ap (λ (c : Command). c.mode) (sym same) ∙ r.mode) in
        by r.status expected
        (whole_status (outcomes_in r.account) (alone command r.p r.nodes) r.nodes (subst (λ (c : Command). AreAlone c r.p r.nodes (outcomes_in r.account)) same r.alone))
      where
        by : {a b status expected : ℕ} → status ≡ a → expected ≡ b → (a ≡ b) ⊎ (a ≡ 8) → IsUnlessMemory expected status
        by is wanted (inl e) = inl (is ∙ e ∙ sym wanted)
        by is wanted (inr lost) = inr (is ∙ lost)

    check_status : (from to : Count) (text : List ℕ) (status : ℕ) → Checks words shelf from to text status → IsUnlessMemory (status_for command design plan program) status
    check_status from to text status r =
        let same = (same_files r.command r.accepted.file.names r.accepted.file.design.files).0 in
        inl (r.status
        ∙ sym (accepted_status r.p r.nodes (subst (λ (c : Command). IsAccepted words shelf c r.p r.nodes) same r.accepted)
        ∙ ap (mode_status command r.p r.nodes) (ap (λ (c : Command). c.mode) (sym same) ∙ r.mode)))

    abbrev test_status : Program → List Node → ℕ → Option Node → ℕ
    test_status p nodes n node = elim node [ None ↦ 4 | Some test ↦ status_of_totals (solo_totals test (alone command p nodes n)) ]

    alone_status : (from to : Count) (text : List ℕ) (status : ℕ) → RunsAlone words shelf from to text status → IsUnlessMemory (status_for command design plan program) status
    alone_status from to text status r =
        let same = (same_files r.command r.accepted.file.names r.accepted.file.design.files).0 in
        inl (r.status ∙ ap (λ (c : Command). status_of_totals (solo_totals r.test (alone c r.p r.nodes r.n))) same
        ∙ sym (accepted_status r.p r.nodes (subst (λ (c : Command). IsAccepted words shelf c r.p r.nodes) same r.accepted)
        ∙ ap (mode_status command r.p r.nodes) (ap (λ (c : Command). c.mode) (sym same) ∙ r.mode)
        ∙ ap (solo_status command r.p r.nodes) (ap (λ (c : Command). test_of c r.nodes) (sym same) ∙ r.named)
        ∙ ap (test_status r.p r.nodes r.n) r.node))

    works_status : (from to : Count) (text : List ℕ) (status : ℕ) → Works words shelf from to text status → IsUnlessMemory (status_for command design plan program) status
    works_status from to text status (help asked t s c) = absurd (no_work words Help command tt asked given.files.asked)
    works_status from to text status (version asked t s c) = absurd (no_work words Version command tt asked given.files.asked)
    works_status from to text status (run r) = run_status from to text status r
    works_status from to text status (check r) = check_status from to text status r
    works_status from to text status (solo r) = alone_status from to text status r

-- ---- work on files that are told

module _ (words : List (List ℕ)) (before after : World) (command : Command) (design plan : List ℕ) (given : IsGiven words before.shelf command design plan)
    (one_program : (bytes : List ℕ) (slots : ℕ) (one other : Program) → IsEarly bytes slots one → IsEarly bytes slots other → one ≡ other)
    (program : Option Program) (spells : length design ≤ limit_of Design → Spells command.slots design program) (none : NoFault before after) where
  cause_status : (refusal : Refusal) → Cause words before after refusal → IsUnlessMemory (status_for command design plan program) (status_of refusal)
  cause_status (WrongWords fault) cause = absurd (clash words fault (Work command) cause given.files.asked)
  cause_status (Failed Design) cause = absurd (none.shelf cause.3.rose)
  cause_status (Failed Plan) cause = absurd (none.shelf cause.4.rose)
  cause_status (TooLong Design) cause =
      let same = same_files words before.shelf command design plan given cause.0 cause.1 cause.2 in
      inl (sym (long_status words before.shelf command design plan given one_program program spells (long_design words before.shelf command design plan given cause.1 same.1 cause.3)))
  cause_status (TooLong Plan) cause =
      let same = same_files words before.shelf command design plan given cause.0 cause.1 cause.3.files in
      inl (sym (design_read words before.shelf command design plan given one_program program spells cause.1 cause.2
      (subst (λ (c : Command). HasDesign words before.shelf c cause.1 cause.2) same.0 cause.3)
      ∙ ap (λ b. if b then 6 else plan_status command cause.2 (plan_of plan))
      (lt-ltb (limit_of Plan) (length plan) (long_plan words before.shelf command design plan given cause.1 same.1 cause.4))))
  cause_status DesignNotBuilt cause =
      let same = same_files words before.shelf command design plan given cause.0 cause.1 cause.3 in
      let is = given_design words before.shelf command design plan given cause.1 cause.2 same.1 cause.4 in
      inl (sym (none_status words before.shelf command design plan given one_program program spells is.1
      (λ p early. cause.5 p (subst (λ (c : Command). IsEarly cause.2 c.slots p) (sym same.0) (subst (λ (bytes : List ℕ). IsEarly bytes command.slots p) (sym is.0) early)))))
  cause_status NoTop cause =
      let same = same_files words before.shelf command design plan given cause.0 cause.1 cause.4 in
      let is = given_design words before.shelf command design plan given cause.1 cause.2 same.1 cause.5 in
      inl (sym (top_status words before.shelf command design plan given one_program program spells cause.3 is.1
      (subst (λ (bytes : List ℕ). IsEarly bytes command.slots cause.3) is.0 (subst (λ (c : Command). IsEarly cause.2 c.slots cause.3) same.0 cause.6))
      (ap (λ (c : Command). is_top c.top cause.3) (sym same.0) ∙ cause.7)))
  cause_status (WrongPlan fault) cause =
      let same = (same_files words before.shelf command design plan given cause.0 cause.3.names cause.3.design.files).0 in
      inl (sym (plan_read words before.shelf command design plan given one_program program spells cause.1 cause.2
      (subst (λ (c : Command). HasPlanFile words before.shelf c cause.1 cause.2) same cause.3)
      ∙ ap (plan_status command cause.1) cause.4))
  cause_status (NoTest name) cause =
      let same = (same_files words before.shelf command design plan given cause.0 cause.3.file.names cause.3.file.design.files).0 in
      inl (sym (accepted_status words before.shelf command design plan given one_program program spells cause.1 cause.2
      (subst (λ (c : Command). IsAccepted words before.shelf c cause.1 cause.2) same cause.3)
      ∙ ap (mode_status command cause.1 cause.2) (ap (λ (c : Command). c.mode) (sym same) ∙ cause.4)
      ∙ ap (solo_status command cause.1 cause.2) (ap (λ (c : Command). test_of c cause.2) (sym same) ∙ cause.5)))
  cause_status Write cause = absurd (none.out cause.3.rose)
  cause_status Memory cause = inr refl

  answer_status : (status : ℕ) → Answers words before after status → IsUnlessMemory (status_for command design plan program) status
  answer_status status (inl done) = works_status words before.shelf command design plan given one_program program spells before.steps after.steps done.text status done.works
  answer_status status (inr refused) = subst (IsUnlessMemory (status_for command design plan program)) (sym refused.is) (cause_status refused.refusal refused.cause)

pub work_exact : ((bytes : List ℕ) (slots : ℕ) (one other : Program) → IsEarly bytes slots one → IsEarly bytes slots other → one ≡ other)
    → (words : List (List ℕ)) (before after : World) (status : ℕ) → Answers words before after status → WorkExact words before after status
work_exact one_program words before after status answer = λ command design plan program given none spells.
    answer_status words before after command design plan given one_program program spells none status answer
