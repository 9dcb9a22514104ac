use Rattle.std.proofs.Common.{◌≡◌, Some, false, refl, arith, subst, sym}
use Rattle.sources.specs.Shrinking.{IsRefusedWithin, is_guarded, left_of}
use Rattle.sources.proofs.sources.Sources.take_export_within.Goals as goal

pub returns-in-None-clause-lists : goal.returns-in-None-clause-lists
returns-in-None-clause-lists c =
    let had = c.left-had.ensures in
    let has = c.left-has.ensures in
    let quiet : is_guarded c.args.guard c.left-had.result c.left-has.result ≡ false = c.in-None.ensures.none in (
      omega (arith, c.if-file-len.false),
      (
        _,
        c.in_ok-list.ensures.loaded,
        subst (λ n. is_guarded c.args.guard n (left_of c.args.now (Some c.in_ok-list.list)) ≡ false) had (subst (λ n. is_guarded c.args.guard c.left-had.result n ≡ false) has quiet),
        refl,
      ),
    )

pub returns-in-Some-clause-lists : goal.returns-in-Some-clause-lists
returns-in-Some-clause-lists c =
    let why = c.in-Some.ensures.some in (
      subst (λ fault. IsRefusedWithin c.args.self.now.max_age c.args.guard c.args.bytes.now c.args.now c.args.file c.args.self.now.lists.items fault) (sym why.2) (
        why.1,
        record {
          there = omega (arith, c.if-file-len.false);
          read = c.in_ok-list.list;
          expired = c.in_ok-list.expired;
          is = c.in_ok-list.ensures.loaded;
          had_is = c.left-had.ensures;
          has_is = c.left-has.ensures;
          short = why.3;
        },
      ),
      refl,
    )
