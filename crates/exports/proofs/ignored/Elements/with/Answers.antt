use Rattle.std.proofs.Common.{sym, subst}
use Rattle.serde_json.specs.Data.{object, put}
use Rattle.exports.specs.PlainForm.{HasElements}
use Rattle.exports.proofs.Elements.{with_aspas, with_bgpsec_keys, with_other, with_router_keys}
use Rattle.exports.proofs.ignored.Elements.with.Goals as goal

pub returns-in-aspas : goal.returns-in-aspas
returns-in-aspas c ms d h is =
    subst (λ k. HasElements (object (put k d ms)) (record c.args.self { aspas = c.args.count })) (sym c.in-aspas.is) (with_aspas ms d c.args.self c.args.count h is)

pub returns-in-bgpsec_keys : goal.returns-in-bgpsec_keys
returns-in-bgpsec_keys c ms d h is =
    subst (λ k. HasElements (object (put k d ms)) (record c.args.self { bgpsec_keys = c.args.count })) (sym c.in-bgpsec_keys.is) (with_bgpsec_keys ms d c.args.self c.args.count h is)

pub returns-in-routerKeys : goal.returns-in-routerKeys
returns-in-routerKeys c ms d h is =
    subst (λ k. HasElements (object (put k d ms)) (record c.args.self { router_keys = c.args.count })) (sym c.in-routerKeys.is) (with_router_keys ms d c.args.self c.args.count h is)

pub returns-in_default : goal.returns-in_default
returns-in_default c ms d h is = with_other c.args.name.now ms d c.args.self c.in_default.not-aspas c.in_default.not-bgpsec_keys c.in_default.not-routerKeys h
