use Rattle.std.proofs.Common.{length, arith, refl, subst}
use Rattle.std.proofs.lemmas.Option.{slice_get_read}
use Rattle.status_server.specs.Connections.{HasWaitedLongest}
use Rattle.status_server.proofs.WaitingLaws.{first_longest, is_inside, now_longest, stays_longest, still_longest}
use Rattle.status_server.proofs.http_connections.longer_waiting.Goals as goal

pub returns-then-not-is_waiting : goal.returns-then-not-is_waiting
returns-then-not-is_waiting g c =
    stays_longest c.args.entries.now c.args.index c.index-entries-index.result
    (slice_get_read c.args.entries.now (length c.args.entries.now) c.args.index c.index-entries-index.result refl c.requires.within c.index-entries-index.is)
    c.args.found c.requires.longest (cc (c.is_waiting.ensures, c.if-not-is_waiting.true))

pub offset_bounds-entries-other : goal.offset_bounds-entries-other
offset_bounds-entries-other g c =
    let inside = is_inside c.args.entries.now c.args.index c.in-Some.other (subst (HasWaitedLongest c.args.index c.args.entries.now) c.in-Some.is c.requires.longest) in
    omega (arith, inside)

pub bounds-entries-other : goal.bounds-entries-other
bounds-entries-other g c =
    is_inside c.args.entries.now c.args.index c.in-Some.other (subst (HasWaitedLongest c.args.index c.args.entries.now) c.in-Some.is c.requires.longest)

pub bounds-entries-other-in-Some : goal.bounds-entries-other-in-Some
bounds-entries-other-in-Some g c =
    is_inside c.args.entries.now c.args.index c.in-Some.other (subst (HasWaitedLongest c.args.index c.args.entries.now) c.in-Some.is c.requires.longest)

pub returns-in-Some : goal.returns-in-Some
returns-in-Some g c =
    still_longest c.args.entries.now c.args.index c.index-entries-index.result
    (slice_get_read c.args.entries.now (length c.args.entries.now) c.args.index c.index-entries-index.result refl c.requires.within c.index-entries-index.is)
    c.in-Some.other _ _ (subst (HasWaitedLongest c.args.index c.args.entries.now) c.in-Some.is c.requires.longest) c.if-entries-other.true

pub returns-in_default : goal.returns-in_default
returns-in_default g c =
    now_longest c.args.entries.now c.args.index c.index-entries-index.result
    (slice_get_read c.args.entries.now (length c.args.entries.now) c.args.index c.index-entries-index.result refl c.requires.within c.index-entries-index.is)
    c.in-Some.other _ _ (subst (HasWaitedLongest c.args.index c.args.entries.now) c.in-Some.is c.requires.longest) (cc (c.is_waiting.ensures, c.if-not-is_waiting.false))
    c.if-entries-other.false

pub returns-in_default-2 : goal.returns-in_default-2
returns-in_default-2 g c =
    first_longest c.args.entries.now c.args.index c.index-entries-index.result
    (slice_get_read c.args.entries.now (length c.args.entries.now) c.args.index c.index-entries-index.result refl c.requires.within c.index-entries-index.is)
    (subst (HasWaitedLongest c.args.index c.args.entries.now) c.in_default.is c.requires.longest) (cc (c.is_waiting.ensures, c.if-not-is_waiting.false))
