-- Which hosts are served: addresses and known names. A page of another name, which resolves to this machine, can read nothing.
use Rattle.std.specs.Prelude.{◌≡◌, ◌⊎◌, ℕ, ◌+◌, ◌-◌, true, not, ◌&&◌, ◌==◌, nat_lt, min, List, length, take, drop, map, slice_index, codes, Option, Some, None, Result, Ok, Err, IfSome, option_map, if◌then◌else◌, ⊤}
use Rattle.std.specs.List.{prefix_len}
use Rattle.std.specs.Char.{to_ascii_lowercase}
use Rattle.std.specs.Net.Grammar.{IsIpv4Text, IsIpv6Text}
use Rattle.std.specs.declared.net.ipv4_addr.Ipv4Addr.{Ipv4Addr}
use Rattle.std.specs.declared.net.ipv6_addr.Ipv6Addr.{Ipv6Addr}
use Rattle.http_header.specs.FieldValue.{FieldValue}
use Rattle.http_header.specs.HeaderMap.{get, get_all}
use Rattle.http_uri.specs.Uri.{uri_authority}
use Rattle.http.specs.declared.request.Parts.{Parts}
use Rattle.http.specs.declared.version.TheConstants.Version.{HTTP_10}
use Rattle.http_server.specs.Host.{is_bracketed, is_port}
use Rattle.status_server.specs.declared.host.HostFault.{HostFault}
use Rattle.status_server.specs.declared.host.HostFault.TheVariants.{Invalid, NotServed}

-- how many bytes come before `]`
abbrev pub bracket_len : List ℕ → ℕ
bracket_len text = prefix_len (λ b. not (b == 93)) text

-- how many bytes come before the first colon
abbrev pub colon_len : List ℕ → ℕ
colon_len text = prefix_len (λ b. not (b == 58)) text

-- The host of an authority (RFC 3986 section 3.2.2): what begins with `[` ends with `]`, and another host before the colon of the port.
abbrev pub host_len : List ℕ → ℕ
host_len text = if is_bracketed text then min (bracket_len text + 1) (length text) else colon_len text

-- an IPv4 address
abbrev pub IsIpv4Host : List ℕ → Type 0
IsIpv4Host host = (a : Ipv4Addr) × IsIpv4Text host a

-- an IPv6 address in brackets
pub record IsIpv6Host (host : List ℕ) : Type 0 where
  pub opens : is_bracketed host ≡ true
  pub closes : bracket_len host + 1 ≡ length host
  pub address : Ipv6Addr
  pub text : IsIpv6Text (take (bracket_len host - 1) (drop 1 host)) address

-- a name without the dot at its end, which is that of the root
abbrev pub undotted : List ℕ → List ℕ
undotted name = if nat_lt 0 (length name) && (slice_index name (length name - 1) == 46) then take (length name - 1) name else name

-- The host is this name. ASCII case makes no difference (RFC 4343), nor does one dot at the end.
abbrev pub IsNamed : List ℕ → List ℕ → Type 0
IsNamed name host = map to_ascii_lowercase (undotted host) ≡ map to_ascii_lowercase (undotted name)

abbrev pub IsConfigured : Option (List ℕ) → List ℕ → Type 0
IsConfigured None host = ⊥
IsConfigured (Some name) host = IsNamed name host

-- an address, a name of the loopback address (RFC 6761 section 6.3), or the configured name
abbrev pub IsServedName : Option (List ℕ) → List ℕ → Type 0
IsServedName name host = IsIpv4Host host ⊎ (IsIpv6Host host ⊎ (IsNamed (codes "localhost") host ⊎ IsConfigured name host))

-- such a host, then nothing, or a colon and decimal digits (RFC 3986 section 3.2.3)
abbrev pub IsServedHost : Option (List ℕ) → List ℕ → Type 0
IsServedHost name text = (is_port (drop (host_len text) text) ≡ true) × IsServedName name (take (host_len text) text)

-- the lines of Host
abbrev pub hosts_of : Parts → List FieldValue
hosts_of p = get_all p.headers (codes "host")

-- A request of HTTP/1.1 has one line of Host, and one of HTTP/1.0 at most one (RFC 9112 section 3.2).
abbrev pub HasValidHosts : Parts → Type 0
HasValidHosts p = (length (hosts_of p) ≡ 1) ⊎ ((length (hosts_of p) ≡ 0) × (p.version ≡ HTTP_10))

abbrev pub target_or_host : Option (List ℕ) → Option FieldValue → Option (List ℕ)
target_or_host (Some authority) host = Some authority
target_or_host None host = option_map (λ h. h.bytes) host

-- What a request names: the authority of its target, and without one its Host (RFC 9112 section 3.2.2).
abbrev pub named_by : Parts → Option (List ℕ)
named_by p = target_or_host (uri_authority p.uri) (get p.headers (codes "host"))

-- whether what a request names is served, if it names anything
abbrev pub NamesServed : Option (List ℕ) → Parts → Type 0
NamesServed name p = IfSome (named_by p) (λ text. IsServedHost name text)

-- A request is let through, or refused: first for its lines of Host, then for what it names.
abbrev pub ChecksHost : Option (List ℕ) → Parts → Result ⊤ HostFault → Type 0
ChecksHost name p (Ok o) = HasValidHosts p × NamesServed name p
ChecksHost name p (Err Invalid) = ¬ (HasValidHosts p)
ChecksHost name p (Err NotServed) = HasValidHosts p × ¬ (NamesServed name p)
