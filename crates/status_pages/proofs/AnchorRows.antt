-- The series of a source without trust anchors, and the members of a status as JSON, worked out.
use Rattle.std.proofs.Common.{◌≡◌, [], None, Some, true, codes, refl}
use Rattle.std.specs.Char.{encode_utf8}
use Rattle.std.specs.Fmt.{digits}
use Rattle.std.specs.Str.{chars}
use Rattle.status_pages.specs.Anchors.{rest_series, series, series_of}
use Rattle.status_pages.specs.ApiStatus.{duration_member, duration_text, rtr_member, tal_member}
use Rattle.status_pages.specs.Escapes.{json_char, label_char}

-- a value with a trust anchor
with_anchor : series (codes "a.json") (codes "ripe") 45426 ≡ codes "rpkirtrd_source_vrps{source=\"a.json\",ta=\"ripe\"} 45426\n"
unfolding series chars label_char encode_utf8 digits
with_anchor = refl

-- Without any, a source has one value, also 0. With some it has one more only if a VRP has none.
without_any : series_of (codes "a") [] (Some 0) ≡ codes "rpkirtrd_source_vrps{source=\"a\",ta=\"\"} 0\n"
unfolding series chars label_char encode_utf8 digits
without_any = refl

not_loaded : series_of (codes "a") [] None ≡ []
not_loaded = refl

none_left : rest_series (codes "a") 0 true ≡ []
none_left = refl

one_left : rest_series (codes "a") 1 true ≡ series (codes "a") [] 1
one_left = refl

-- a duration of less than a second, and of more
short : duration_member (Some 45) ≡ codes ",\"lastUpdateDuration\":0.045"
unfolding duration_text digits
short = refl

long : duration_member (Some 61230) ≡ codes ",\"lastUpdateDuration\":61.230"
unfolding duration_text digits
long = refl

-- the routers, and a trust anchor
routers : rtr_member 3 300 1000000 ≡ codes ",\"rtr\":{\"currentConnections\":3,\"bytesRead\":300,\"bytesWritten\":1000000}}"
unfolding rtr_member digits
routers = refl

anchor : tal_member (codes "ripe") 45426 ≡ codes "\"ripe\":{\"vrpsTotal\":45426}"
unfolding tal_member chars json_char encode_utf8 digits
anchor = refl
