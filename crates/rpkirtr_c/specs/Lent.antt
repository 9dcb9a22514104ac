-- A value that is lent out of its handle. The handle ends with the last value behind the reference.
use Rattle.std.specs.Prelude.{Some}
use Rattle.std.specs.Borrow.{Lends, MutBor, Fml}
use Rattle.rpkirtr_c.specs.declared.session.Session.{Session}
use Rattle.rpkirtr_c.specs.contracts.session.Session as session
use Rattle.rpkirtr_c.specs.declared.router.RouterHandle.{RouterHandle}
use Rattle.rpkirtr_c.specs.contracts.router.RouterHandle as router_handle
use Rattle.rpkirtr_c.specs.declared.judge.Judge.{Judge}
use Rattle.rpkirtr_c.specs.contracts.judge.SharedJudge as judge
use Rattle.rpkirtr_c.specs.declared.index.IndexHandle.{IndexHandle}
use Rattle.rpkirtr_c.specs.contracts.index.IndexHandle as index_handle
use Rattle.rpkirtr_c.specs.declared.authorization.Authorization.{Authorization}
use Rattle.rpkirtr_c.specs.contracts.authorization.Authorization as authorization
use Rattle.rpkirtr_c.specs.declared.roa.RoaHandle.{RoaHandle}
use Rattle.rpkirtr_c.specs.contracts.roa.RoaHandle as roa_handle
use Rattle.rpkirtr_c.specs.declared.contents.Contents.{Contents}
use Rattle.rpkirtr_c.specs.contracts.contents.Contents as contents
use Rattle.rpkirtr_c.specs.declared.manifest.ManifestHandle.{ManifestHandle}
use Rattle.rpkirtr_c.specs.contracts.manifest.ManifestHandle as manifest_handle
use Rattle.rpkirtr_c.specs.declared.served_cache.ServedCache.{ServedCache}
use Rattle.rpkirtr_c.specs.contracts.served_cache.ServedCache as served
use Rattle.rpkirtr_c.specs.declared.cache.CacheHandle.{CacheHandle}
use Rattle.rpkirtr_c.specs.contracts.cache.CacheHandle as cache_handle

abbrev pub with_session : RouterHandle → Session → RouterHandle
with_session h w = record { at = h.at; alloc = h.alloc; value = Some w }

abbrev pub LendsSession : MutBor RouterHandle → MutBor Session → Fml
LendsSession h r = Lends router_handle.the_row session.the_row h r (with_session h.now)

abbrev pub with_judge : IndexHandle → Judge → IndexHandle
with_judge h w = record { at = h.at; alloc = h.alloc; value = Some w }

abbrev pub LendsJudge : MutBor IndexHandle → MutBor Judge → Fml
LendsJudge h r = Lends index_handle.the_row judge.the_row h r (with_judge h.now)

abbrev pub with_authorization : RoaHandle → Authorization → RoaHandle
with_authorization h w = record { at = h.at; alloc = h.alloc; value = Some w }

abbrev pub LendsAuthorization : MutBor RoaHandle → MutBor Authorization → Fml
LendsAuthorization h r = Lends roa_handle.the_row authorization.the_row h r (with_authorization h.now)

abbrev pub with_contents : ManifestHandle → Contents → ManifestHandle
with_contents h w = record { at = h.at; alloc = h.alloc; value = Some w }

abbrev pub LendsContents : MutBor ManifestHandle → MutBor Contents → Fml
LendsContents h r = Lends manifest_handle.the_row contents.the_row h r (with_contents h.now)

abbrev pub with_served : CacheHandle → ServedCache → CacheHandle
with_served h w = record { at = h.at; alloc = h.alloc; value = Some w }

abbrev pub LendsServedCache : MutBor CacheHandle → MutBor ServedCache → Fml
LendsServedCache h r = Lends cache_handle.the_row served.the_row h r (with_served h.now)
