use Rattle.std.proofs.Common.{◌≡◌, ◌∙◌, refl, sym}
use Rattle.exports.proofs.Times.{plain_time, says_time}
use Rattle.exports.proofs.built.time_in.Goals as goal

pub returns-in-Some : goal.returns-in-Some
returns-in-Some c =
    let bytes = c.as_bytes-bytes.result.now in
    let time = says_time bytes c.in-Some.moment c.if-bytes-ne20.false c.if-bytes-ne45.false c.if-bytes-ne45-2.false c.if-bytes-ne84.false c.if-bytes-ne58.false c.if-bytes-ne58-2.false c.if-bytes-ne90.false c.in-Some.ensures.says.text in
    (c.args.text.now, refl, (c.in-Some.moment, record { text_is = sym c.as_bytes-bytes.ensures.value ∙ time; real = c.in-Some.ensures.says.real }, c.seconds.ensures))

pub returns-in-None : goal.returns-in-None
returns-in-None c t same m says =
    let is : c.args.text.now ≡ t = cc in
    let digits = plain_time c.as_bytes-bytes.result.now m (c.as_bytes-bytes.ensures.value ∙ is ∙ says.text_is) in
    c.in-None.ensures.says m (record { text = digits; real = says.real })
