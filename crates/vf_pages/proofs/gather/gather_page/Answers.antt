use Rattle.std.proofs.Common.{◌≡◌, ℕ, ◌/◌, ◌<◌, ◌∙◌, length, refl, ap, sym, arith}
use Rattle.std.proofs.lemmas.List.{get_or_default}
use Rattle.std.specs.Prelude.{Some}
use Rattle.std.proofs.lemmas.Result.{on_ok_weaker}
use Rattle.vf_pages.specs.declared.held.Held.{Held}
use Rattle.vf_pages.specs.Views.{page_of, pages_of}
use Rattle.vf_pages.specs.Pages.{zero_page}
use Rattle.vf_pages.specs.Writes.{after}
use Rattle.vf_pages.specs.Contents.{content_words}
use Rattle.vf_pages.specs.declared.gather.Lack.TheVariants.{Memory}
use Rattle.vf_pages.specs.Gathered.{NoFrame, OnLack, Ends}
use Rattle.vf_pages.proofs.Lookups.{held-place, length-pages}
use Rattle.vf_pages.proofs.Tables.{table-none}
use Rattle.vf_pages.proofs.Writing.{taken-here, fresh-here}
use Rattle.vf_pages.proofs.Goes.{err-both, err-weaker, ends-alone, owned-has, goes-alone, goes-new, ends-new, goes-shared, ends-shared}
use Rattle.vf_pages.proofs.gather.gather_page.Goals as goal

pub returns-in_default-clause-ok : goal.returns-in_default-clause-ok
returns-in_default-clause-ok g c =
    let pages = pages_of c.args.held.now.items in
    let p : ℕ = c.args.at / 64 in
    let now = g.F.Frames.seen c.args.token.now in
    let numbers = g.F.Frames.numbers c.args.pool.now in
    let own = c.args.own.now in
    let none = table-none c.args.places.now.items pages p c.requires.table c.in_default.ensures.none in
    on_ok_weaker c.add_new.result
    (λ added. goes-new c.args.zero.now pages p numbers now (pages_of c.args.fresh.now.items) own (after own p (zero_page c.args.zero.now p))
    (g.F.Frames.numbers c.add_new.new.pool) (g.F.Frames.seen c.add_new.new.token) (pages_of c.add_new.new.fresh.items)
    c.requires.some c.requires.own (omega arith) none refl added c.add_new.ensures.kept)
    c.add_new.ensures.ok

pub returns-in_default-clause-err : goal.returns-in_default-clause-err
returns-in_default-clause-err g c =
    let zero = c.args.zero.now in
    let pages = pages_of c.args.held.now.items in
    let p : ℕ = c.args.at / 64 in
    let now = g.F.Frames.seen c.args.token.now in
    let numbers = g.F.Frames.numbers c.args.pool.now in
    let own = c.args.own.now in
    let fresh = pages_of c.args.fresh.now.items in
    let numbers' = g.F.Frames.numbers c.add_new.new.pool in
    let now' = g.F.Frames.seen c.add_new.new.token in
    let fresh' = pages_of c.add_new.new.fresh.items in
    let none = table-none c.args.places.now.items pages p c.requires.table c.in_default.ensures.none in
    err-both c.add_new.result (fresh' ≡ fresh) (λ lack. OnLack lack (NoFrame numbers now now') (now' ≡ now)) (Ends zero pages p own numbers now fresh numbers' now' fresh')
    c.add_new.ensures.err c.add_new.ensures.lack
    (λ lack same why. ends-new zero pages p numbers now fresh own numbers' now' fresh' lack c.requires.some c.requires.own none same why c.add_new.ensures.kept)

pub index-requires : goal.index-requires
index-requires g c =
    let place = c.requires.table.finds (c.args.at / 64) c.in-Some.place c.in-Some.ensures.some in
    omega (arith, place.within, length-pages c.args.held.now.items)

pub index-requires-2 : goal.index-requires-2
index-requires-2 g c =
    let place = c.requires.table.finds (c.args.at / 64) c.in-Some.place c.in-Some.ensures.some in
    omega (arith, place.within, length-pages c.args.held.now.items)

pub take_page-requires : goal.take_page-requires
take_page-requires g c =
    let place = c.requires.table.finds (c.args.at / 64) c.in-Some.place c.in-Some.ensures.some in
    omega (arith, place.within, length-pages c.args.held.now.items)

pub look-requires-clause-there : goal.look-requires-clause-there
look-requires-clause-there g c =
    let held = c.args.held.now.items in
    let p : ℕ = c.args.at / 64 in
    let one = c.index.result.now in
    let place = c.requires.table.finds p c.in-Some.place c.in-Some.ensures.some in
    owned-has (pages_of held) _ _ p (page_of one) c.requires.owns
    (held-place held _ p one c.requires.sorted place ∙ ap (λ (h : Held). Some (page_of h)) (sym c.index.ensures))

pub returns-then-look-clause-ok : goal.returns-then-look-clause-ok
returns-then-look-clause-ok g c =
    let held = c.args.held.now.items in
    let pages = pages_of held in
    let p : ℕ = c.args.at / 64 in
    let one = c.index.result.now in
    let place = c.requires.table.finds p c.in-Some.place c.in-Some.ensures.some in
    let found = held-place held _ p one c.requires.sorted place ∙ ap (λ (h : Held). Some (page_of h)) (sym c.index.ensures) in
    on_ok_weaker c.take_page.result
    (λ taken. goes-alone c.args.zero.now pages p _ _ _ c.args.own.now (page_of one) _ _ c.requires.some c.requires.own found
    c.if-look.ensures.looked c.if-look.ensures.kept c.if-look.ensures.alone (owned-has pages _ _ p (page_of one) c.requires.owns found))
    c.take_page.ensures.taken

pub returns-then-look-clause-taken : goal.returns-then-look-clause-taken
returns-then-look-clause-taken g c =
    let held = c.args.held.now.items in
    let p : ℕ = c.args.at / 64 in
    let place = c.requires.table.finds p c.in-Some.place c.in-Some.ensures.some in
    on_ok_weaker c.take_page.result
    (λ taken. taken-here c.in-Some.place p held c.take_page.new.held.items (pages_of c.args.fresh.now.items) c.take_page.ensures.pages c.requires.sorted place taken)
    c.take_page.ensures.taken

pub returns-then-look-clause-err : goal.returns-then-look-clause-err
returns-then-look-clause-err g c =
    let pages = pages_of c.args.held.now.items in
    let p : ℕ = c.args.at / 64 in
    let fresh = pages_of c.args.fresh.now.items in
    err-weaker c.take_page.result (λ lack. lack ≡ Memory)
    (λ lack. Ends c.args.zero.now pages p c.args.own.now (g.F.Frames.numbers c.args.pool.now) (g.F.Frames.seen c.args.token.now) fresh
    (g.F.Frames.numbers c.look.new.self) (g.F.Frames.seen c.look.new.holder) fresh lack)
    c.take_page.ensures.err
    (λ lack is. ends-alone c.args.zero.now pages p _ _ fresh c.args.own.now _ _ _ lack c.if-look.ensures.looked c.if-look.ensures.kept is)

pub returns-in_default-clause-taken : goal.returns-in_default-clause-taken
returns-in_default-clause-taken g c =
    on_ok_weaker c.add_new.result
    (λ added. fresh-here (c.args.at / 64) c.args.held.now.items (pages_of c.args.fresh.now.items) (pages_of c.add_new.new.fresh.items) _ added.is refl)
    c.add_new.ensures.ok

pub returns-clause-taken : goal.returns-clause-taken
returns-clause-taken g c =
    on_ok_weaker c.add_fresh.result
    (λ added. fresh-here (c.args.at / 64) c.args.held.now.items (pages_of c.args.fresh.now.items) (pages_of c.add_fresh.new.fresh.items) _ added.is refl)
    c.add_fresh.ensures.ok

pub returns-clause-ok : goal.returns-clause-ok
returns-clause-ok g c =
    let pages = pages_of c.args.held.now.items in
    let p : ℕ = c.args.at / 64 in
    let now = g.F.Frames.seen c.args.token.now in
    let numbers = g.F.Frames.numbers c.args.pool.now in
    let own = c.args.own.now in
    let fresh = pages_of c.args.fresh.now.items in
    let held = c.args.held.now.items in
    let one = c.index.result.now in
    let place = c.requires.table.finds p c.in-Some.place c.in-Some.ensures.some in
    let found = held-place held _ p one c.requires.sorted place ∙ ap (λ (h : Held). Some (page_of h)) (sym c.index.ensures) in
    let there = owned-has pages fresh now.frames p (page_of one) c.requires.owns found in
    let within : c.in-Some.place < length held = omega (arith, place.within, length-pages held) in
    let same : c.index-2.result.now ≡ one = c.index-2.ensures ∙ get_or_default held c.in-Some.place c.index-2.result.now one within ∙ sym c.index.ensures in
    let are = ap (after own p) (c.words.ensures ∙ ap (λ (h : Held). content_words h.content) same) in
    on_ok_weaker c.add_fresh.result
    (λ added. goes-shared c.args.zero.now pages p numbers now fresh own (page_of one) (after own p c.words.result.now)
    (g.F.Frames.numbers c.look.new.self) (g.F.Frames.seen c.look.new.holder)
    (g.F.Frames.numbers c.add_fresh.new.pool) (g.F.Frames.seen c.add_fresh.new.token) (pages_of c.add_fresh.new.fresh.items)
    c.requires.some c.requires.own (omega arith) found c.if-look.ensures.looked c.if-look.ensures.kept c.if-look.ensures.alone there are added c.add_fresh.ensures.kept)
    c.add_fresh.ensures.ok

pub returns-clause-err : goal.returns-clause-err
returns-clause-err g c =
    let zero = c.args.zero.now in
    let pages = pages_of c.args.held.now.items in
    let p : ℕ = c.args.at / 64 in
    let now = g.F.Frames.seen c.args.token.now in
    let numbers = g.F.Frames.numbers c.args.pool.now in
    let now1 = g.F.Frames.seen c.look.new.holder in
    let numbers1 = g.F.Frames.numbers c.look.new.self in
    let own = c.args.own.now in
    let fresh = pages_of c.args.fresh.now.items in
    let numbers' = g.F.Frames.numbers c.add_fresh.new.pool in
    let now' = g.F.Frames.seen c.add_fresh.new.token in
    let fresh' = pages_of c.add_fresh.new.fresh.items in
    let held = c.args.held.now.items in
    let one = c.index.result.now in
    let place = c.requires.table.finds p c.in-Some.place c.in-Some.ensures.some in
    let found = held-place held _ p one c.requires.sorted place ∙ ap (λ (h : Held). Some (page_of h)) (sym c.index.ensures) in
    let there = owned-has pages fresh now.frames p (page_of one) c.requires.owns found in
    err-both c.add_fresh.result (fresh' ≡ fresh) (λ lack. OnLack lack (NoFrame numbers1 now1 now') (now' ≡ now1)) (Ends zero pages p own numbers now fresh numbers' now' fresh')
    c.add_fresh.ensures.err c.add_fresh.ensures.lack
    (λ lack same why. ends-shared zero pages p numbers now fresh own (page_of one) numbers1 now1 numbers' now' fresh' lack c.requires.some c.requires.own found
    c.if-look.ensures.looked c.if-look.ensures.kept c.if-look.ensures.alone there same why c.add_fresh.ensures.kept)
