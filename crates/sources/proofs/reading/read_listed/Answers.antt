use Rattle.std.proofs.Common.{◌∙◌, ap, inl, refl, sym}
use Rattle.sources.proofs.reading.read_listed.Goals as goal

pub returns-clause-loaded : goal.returns-clause-loaded
returns-clause-loaded c =
    let so = c.listed_of.ensures.list in
    inl (
      sym c.begins_as_ccr.ensures ∙ c.if-begins_as_ccr.false,
      record {
        read = c.in_ok-read.read.lasting;
        is = c.in_ok-read.ensures.ok.lasting;
        set_is = so.0;
        lasts_are = ap (λ v. v.items) so.1;
        built_is = so.2;
        expired_is = c.listed_of.ensures.expired;
        counted = c.in_ok-read.read;
        is_counted = c.in_ok-read.ensures.ok;
        ignored_is = c.listed_of.ensures.ignored;
        is_anchored = c.in_ok-read.ensures.anchors;
        is_read = refl;
        anchors_are = c.listed_of.ensures.anchors;
      },
    )
