-- What a point holds as a code, by which proofs distinguish such values.
use Rattle.std.specs.Prelude.{ℕ, List, Option, refl}
use Rattle.std.specs.Coded.{Coded, code_by, coded_ℕ, coded_list, coded_option, coded×}
use Rattle.der_lite.specs.Moments.{CivilMoment}
use Rattle.prefixes.specs.Payload.{coded_prefix}
use Rattle.prefixes.specs.declared.prefix.IpPrefix.{IpPrefix}
use Rattle.payloads.specs.declared.roa_entry.RoaEntry.{RoaEntry}
use Rattle.payloads.specs.Manifest.{ListedFile, ManifestValue}
use Rattle.payloads.specs.RoaValues.{RoaValue}
use Rattle.points.specs.Accepted.{Accepted}

abbrev pub coded_bytes : Coded (List ℕ)
coded_bytes = coded_list coded_ℕ

abbrev pub coded_moment : Coded CivilMoment
coded_moment =
    code_by (ℕ × (ℕ × (ℕ × (ℕ × (ℕ × ℕ))))) (coded× coded_ℕ (coded× coded_ℕ (coded× coded_ℕ (coded× coded_ℕ (coded× coded_ℕ coded_ℕ)))))
    (λ m. (m.year, (m.month, (m.day, (m.hour, (m.minute, m.second))))))
    (λ p. record { year = p.0; month = p.1.0; day = p.1.1.0; hour = p.1.1.1.0; minute = p.1.1.1.1.0; second = p.1.1.1.1.1 }) (λ _. refl)

abbrev pub coded_file : Coded ListedFile
coded_file = code_by (List ℕ × List ℕ) (coded× coded_bytes coded_bytes) (λ f. (f.name, f.hash)) (λ p. record { name = p.0; hash = p.1 }) (λ _. refl)

abbrev pub coded_manifest : Coded ManifestValue
coded_manifest =
    code_by (List ℕ × (CivilMoment × (CivilMoment × List ListedFile))) (coded× coded_bytes (coded× coded_moment (coded× coded_moment (coded_list coded_file))))
    (λ m. (m.number, (m.this_update, (m.next_update, m.files))))
    (λ p. record { number = p.0; this_update = p.1.0; next_update = p.1.1.0; files = p.1.1.1 }) (λ _. refl)

abbrev pub coded_entry : Coded RoaEntry
coded_entry =
    code_by (IpPrefix × Option ℕ) (coded× coded_prefix (coded_option coded_ℕ)) (λ e. (e.prefix, e.max_len)) (λ p. record { prefix = p.0; max_len = p.1 }) (λ _. refl)

abbrev pub coded_roa : Coded RoaValue
coded_roa = code_by (ℕ × List RoaEntry) (coded× coded_ℕ (coded_list coded_entry)) (λ r. (r.asn, r.entries)) (λ p. record { asn = p.0; entries = p.1 }) (λ _. refl)

abbrev pub coded_accepted : Coded Accepted
coded_accepted =
    code_by (List ℕ × (ManifestValue × List RoaValue)) (coded× coded_bytes (coded× coded_manifest (coded_list coded_roa)))
    (λ a. (a.bytes, (a.manifest, a.roas))) (λ p. record { bytes = p.0; manifest = p.1.0; roas = p.1.1 }) (λ _. refl)
