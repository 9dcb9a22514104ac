-- The members of an export, and its whole text.
use Rattle.std.proofs.Common.{inr, ◌≡◌, ◌≢◌, ◌||◌, ℕ, Bool, true, false, cond, bytes_eq, List, [], ◌∷◌, Vec, Global, Option, Some, None, Result, Ok, Err, refl, sym, ap, subst, ◌∙◌}
use Rattle.std.specs.Prelude.{IfOk, MatchOption, codes, is_some, option_and_then}
use Rattle.json.specs.Token.{Token}
use Rattle.json.specs.Json as json
use Rattle.json.specs.Json.{value}
use Rattle.json.specs.Lex.{tokens}
use Rattle.serde_json.specs.Data.{Data, Items, Members, array, boolean, no_items, no_members, null, number, object, put, string}
use Rattle.prefixes.specs.Payload.{Payload}
use Rattle.serde_json.specs.Find.{as_array, as_object, get}
use Rattle.serde_json.specs.Read.{of_json, read}
use Rattle.serde_json.proofs.Views.{get_member-put, get_member-put_other}
use Rattle.payload_lists.specs.PayloadList as lists
use Rattle.payload_lists.specs.PayloadList.{text_at, whole_at}
use Rattle.exports.specs.Built.{IsBuilt, buildtime, generated}
use Rattle.exports.specs.Export.{roas}
use Rattle.exports.specs.Gathering.{IsLasting}
use Rattle.exports.specs.ListForm.{ReadsRecords, Records}
use Rattle.exports.specs.Numbering.{Anchors}
use Rattle.exports.specs.Ignored.{element_count}
use Rattle.exports.specs.PlainForm.{HasElements, HasEntries, HasParts, IsScalar, ReadsBuilt, ReadsCounted, ReadsForm, ReadsListParts, ReadsMembers, ReadsNoItems, ReadsNoMembers, ReadsNone, ReadsPart, ReadsParts, ReadsRoas, ReadsSome, TellsBuilt, TellsEntries, TellsParts, TellsRoas, before}
use Rattle.exports.specs.Repeating.{ExportMet, export_repeats, export_twice, member_repeats, members_repeat, metadata_repeat, roas_repeat}
use Rattle.exports.specs.Repeats.{tree}
use Rattle.exports.specs.declared.gathered.EntryRecords.{EntryRecords}
use Rattle.exports.specs.declared.ignored.Elements.{Elements}
use Rattle.exports.specs.declared.names.ExportNames.{ExportNames}
use Rattle.exports.specs.declared.streaming.Entries.{Entries}
use Rattle.exports.specs.declared.streaming.Entries.TheVariants.{Whole, Broken}
use Rattle.exports.specs.declared.streaming.ExportMembers.{ExportMembers}
use Rattle.exports.specs.declared.streaming.Scalar.{Scalar}
use Rattle.exports.proofs.Deciding.{names_differ, of_tree}
use Rattle.exports.proofs.Elements as counts
use Rattle.exports.proofs.Anchoring.{anchors_in_roas}
use Rattle.exports.proofs.Items.{gather_list}
use Rattle.exports.proofs.PlainParts.{no_array_here, no_object_here, object_first, or_false, or_more}
use Rattle.exports.proofs.PlainSteps.{Unread, array_read, no_array, no_object, object_read, other, unread}

pub has_none : (now : ℕ) → HasParts now no_members (record { entries = None; built = None; elements = counts.none; repeats = false })
has_none now = record { entries = refl; built = λ t e m says. absurd (cc); elements = counts.none_at_first }

entries_kept : (now : ℕ) (d e : Data) (o : Option Entries) → roas e ≡ roas d → HasEntries now d o → HasEntries now e o
entries_kept now d e None same h = same ∙ h
entries_kept now d e (Some entries) same h = (h.0, same ∙ h.1, h.2)

roas_put : (d : Data) (ms : Members) → roas (object (put (codes "roas") d ms)) ≡ as_array d
roas_put d ms = ap (option_and_then as_array) (get_member-put (codes "roas") d ms)

entries_put : (now : ℕ) (d : Data) (ms : Members) (o : Option Entries) → TellsRoas now d o → HasEntries now (object (put (codes "roas") d ms)) o
entries_put now d ms None h = roas_put d ms ∙ h
entries_put now d ms (Some entries) h = (h.0, roas_put d ms ∙ h.1, h.2)

built_kept : (d e : Data) (b : Option ℕ) → get (codes "metadata") e ≡ get (codes "metadata") d → IsBuilt (generated d) (buildtime d) b → IsBuilt (generated e) (buildtime e) b
built_kept d e b same h = subst (λ o. IsBuilt (option_and_then (whole_at (codes "generated")) o) (option_and_then (text_at (codes "buildtime")) o) b) (sym same) h

-- The members so far were read, and how often the names that are read stand among them.
abbrev pub PartsSoFar : ℕ → ExportMembers → ExportNames → (json.Members → json.Members) → Members → Type 0
PartsSoFar now p names f ms = HasParts now ms p × ExportMet f names × ((rest : json.Members) → members_repeat (f rest) ≡ (p.repeats || members_repeat rest))

pub part_roas : (now : ℕ) (p : ExportMembers) (r : Option Entries × Bool) (old new : List Token) → ReadsRoas now old new r → ReadsPart now (codes "roas") p (record { entries = r.0; built = p.built; elements = p.elements; repeats = p.repeats || r.1 }) old new
part_roas now p r old new read =
    other 126 (λ j d. TellsRoas now d r.0 × (r.1 ≡ roas_repeat j))
    (λ j d. ((ms : Members) → HasParts now ms p → HasParts now (put (codes "roas") d ms) (record { entries = r.0; built = p.built; elements = p.elements; repeats = p.repeats || r.1 })) × ((p.repeats || r.1) ≡ (p.repeats || member_repeats (codes "roas") j))) old new
    (λ j d made at is. (
      λ ms h. record {
        entries = entries_put now d ms r.0 is.0;
        built = built_kept (object ms) (object (put (codes "roas") d ms)) p.built (get_member-put_other (codes "metadata") (codes "roas") d ms (λ e. cc)) h.built;
        elements = counts.with_roas ms d p.elements h.elements;
      },
      ap (λ b. p.repeats || b) is.1,
    )) read

pub part_metadata : (now : ℕ) (p : ExportMembers) (r : Option ℕ × Bool) (old new : List Token) → ReadsBuilt old new r → ReadsPart now (codes "metadata") p (record { entries = p.entries; built = r.0; elements = p.elements; repeats = p.repeats || r.1 }) old new
part_metadata now p r old new read =
    other 126 (λ j d. TellsBuilt d r.0 × (r.1 ≡ metadata_repeat j))
    (λ j d. ((ms : Members) → HasParts now ms p → HasParts now (put (codes "metadata") d ms) (record { entries = p.entries; built = r.0; elements = p.elements; repeats = p.repeats || r.1 })) × ((p.repeats || r.1) ≡ (p.repeats || member_repeats (codes "metadata") j))) old new
    (λ j d made at is. (
      λ ms h. record {
        entries = entries_kept now (object ms) (object (put (codes "metadata") d ms)) p.entries (ap (option_and_then as_array) (get_member-put_other (codes "roas") (codes "metadata") d ms (λ e. cc))) h.entries;
        built = subst (λ o. IsBuilt (option_and_then (whole_at (codes "generated")) o) (option_and_then (text_at (codes "buildtime")) o) r.0) (sym (get_member-put (codes "metadata") d ms)) is.0;
        elements = counts.with_metadata ms d p.elements h.elements;
      },
      ap (λ b. p.repeats || b) is.1,
    )) read

none_repeats : (k : List ℕ) (j : json.Json) → (k ≡ codes "roas" → ⊥) → (k ≡ codes "metadata" → ⊥) → member_repeats k j ≡ false
none_repeats k j no_roas no_metadata =
    ap (λ b. cond b (roas_repeat j) (cond (bytes_eq k (codes "metadata")) (metadata_repeat j) false)) (names_differ k (codes "roas") no_roas) ∙ ap (λ b. cond b (metadata_repeat j) false) (names_differ k (codes "metadata") no_metadata)

pub part_other : (now : ℕ) (k : List ℕ) (p : ExportMembers) (n : ℕ) (e : Elements) (old new : List Token) → (k ≡ codes "roas" → ⊥) → (k ≡ codes "metadata" → ⊥) → ReadsCounted old new n
    → ((ms : Members) (d : Data) → HasElements (object ms) p.elements → n ≡ element_count d → HasElements (object (put k d ms)) e) → ReadsPart now k p (record { entries = p.entries; built = p.built; elements = e; repeats = p.repeats }) old new
part_other now k p n e old new no_roas no_metadata read counted =
    other 126 (λ j d. n ≡ element_count d)
    (λ j d. ((ms : Members) → HasParts now ms p → HasParts now (put k d ms) (record { entries = p.entries; built = p.built; elements = e; repeats = p.repeats })) × (p.repeats ≡ (p.repeats || member_repeats k j))) old new
    (λ j d made at is. (
      λ ms h. record {
        entries = entries_kept now (object ms) (object (put k d ms)) p.entries (ap (option_and_then as_array) (get_member-put_other (codes "roas") k d ms (λ e. no_roas (sym e)))) h.entries;
        built = built_kept (object ms) (object (put k d ms)) p.built (get_member-put_other (codes "metadata") k d ms (λ e. no_metadata (sym e))) h.built;
        elements = counted ms d h.elements is;
      },
      sym (ap (λ b. p.repeats || b) (none_repeats k j no_roas no_metadata) ∙ or_false p.repeats),
    )) read

-- A member more of which a name is repeated, or is not
pub parts_more : (f : json.Members → json.Members) (p q : ExportMembers) (name : List ℕ) (j : json.Json) → ((rest : json.Members) → members_repeat (f rest) ≡ (p.repeats || members_repeat rest)) → q.repeats ≡ (p.repeats || member_repeats name j)
    → (rest : json.Members) → members_repeat (f (json.member name j rest)) ≡ (q.repeats || members_repeat rest)
parts_more f p q name j so_far is rest = so_far (json.member name j rest) ∙ or_more p.repeats (member_repeats name j) (members_repeat rest) ∙ ap (λ b. b || members_repeat rest) (sym is)

-- ---- a text

-- A value that is the whole text is what is read of it.
whole_value : (text : List ℕ) (reader rest : List Token) (Is : json.Json → Data → Type 0) → reader ≡ tokens text → ReadsSome 127 Is reader rest → rest ≡ [] → (j : json.Json) × (d : Data) × (tree text ≡ Some j) × (read text ≡ Some d) × Is j d
whole_value text reader rest Is whole value_read over =
    let v = value_read.1 in
    let is : tree text ≡ Some v.0 = ap (option_and_then (λ p. json.if_last p.0 p.1)) (ap (value 127) (sym whole) ∙ v.3) ∙ ap (λ ts. json.if_last v.0 ts) over in
    (v.0, v.1, is, ap (option_and_then of_json) is ∙ v.4, v.2)

-- ---- what is no JSON

pub no_json : (text : List ℕ) (reader : List Token) → reader ≡ tokens text → ReadsNone 127 reader → read text ≡ None
no_json text reader whole none = ap (λ ts. option_and_then of_json (option_and_then (λ p. json.if_last p.0 p.1) (value 127 ts))) (sym whole) ∙ by (value 127 reader) (unread (value 127 reader) none)
  where
    last : (j : json.Json) (ts : List Token) → of_json j ≡ None → option_and_then of_json (json.if_last j ts) ≡ None
    last j [] h = h
    last j (t ∷ ts) h = refl

    by : (o : Option (json.Json × List Token)) → Unread o → option_and_then of_json (option_and_then (λ p. json.if_last p.0 p.1) o) ≡ None
    by None h = refl
    by (Some p) h = last p.0 p.1 h

pub more_than_json : (text : List ℕ) (Is : json.Json → Data → Type 0) (reader rest later : List Token) (t : Token) → reader ≡ tokens text → ReadsSome 127 Is reader rest → rest ≡ t ∷ later → read text ≡ None
more_than_json text Is reader rest later t whole some more =
    let v = some.1 in
    ap (λ ts. option_and_then of_json (option_and_then (λ p. json.if_last p.0 p.1) (value 127 ts))) (sym whole) ∙ ap (λ o. option_and_then of_json (option_and_then (λ p. json.if_last p.0 p.1) o)) v.3 ∙ ap (λ ts. option_and_then of_json (json.if_last v.0 ts)) more

-- ---- either form

told_some : (now : ℕ) (ms : Members) (o : Option Entries) → HasEntries now (object ms) o → TellsEntries now (object ms) o
told_some now ms None h = (h, λ es l. let no : None ≡ Some l.items = l.is_array in absurd (cc))
told_some now ms (Some (Whole g)) h = (h.2.0, inr (record { items = h.0; roas_are = h.1; entries = h.2.1 }), h.2.2, subst (λ names. Anchors now h.2.0 names g) (anchors_in_roas (object ms) h.0 h.1) h.2.3)
told_some now ms (Some (Broken i w)) h = (h.0, h.1, h.2)

pub object_form : {E : Type 0} (now : ℕ) (old ts new : List Token) (r : Result (Option ExportMembers) E) → old ≡ Token.begin_object ∷ ts
    → IfOk r (λ found. MatchOption found (ReadsNoMembers 126 ts) (λ p. ReadsMembers 126 (λ js ms. HasParts now ms p × (p.repeats ≡ export_twice js)) ts new))
    → IfOk r (λ found. MatchOption found (ReadsNone 127 old) (λ p. ReadsForm now old new p))
object_form now old ts new (Err e) first h = tt
object_form now old ts new (Ok None) first h = no_object 126 old ts first h
object_form now old ts new (Ok (Some p)) first h =
    object_read 126 (λ js ms. HasParts now ms p × (p.repeats ≡ export_twice js)) (λ j d. TellsParts now d p × (p.repeats ≡ export_repeats j)) old ts new first h
    (λ js ms is. (record { entries = told_some now ms p.entries is.0.entries; built = is.0.built; elements = is.0.elements }, is.1))

pub list_form : {E : Type 0} (now : ℕ) (old ts new : List Token) (r : Result (Option ExportMembers) E) → old ≡ Token.begin_array ∷ ts
    → IfOk r (λ found. MatchOption found (ReadsNoItems 126 ts) (λ p. ReadsListParts now ts new p)) → IfOk r (λ found. MatchOption found (ReadsNone 127 old) (λ p. ReadsForm now old new p))
list_form now old ts new (Err e) first h = tt
list_form now old ts new (Ok None) first h = no_array 126 old ts first h
list_form now old ts new (Ok (Some p)) first h =
    array_read 126 (λ js ds. TellsParts now (array (before ds no_items)) p × (p.repeats ≡ false)) (λ j d. TellsParts now d p × (p.repeats ≡ export_repeats j)) old ts new first h (λ js ds is. is)

-- What was read of a value that is neither an array nor an object
abbrev pub no_parts : ExportMembers
no_parts = record { entries = None; built = None; elements = counts.none; repeats = false }

of_neither : (now : ℕ) (d : Data) → is_some (as_object d) ≡ false → as_array d ≡ None → TellsParts now d no_parts
of_neither now null no_object no_array = record { entries = (refl, λ es l. let no : None ≡ Some l.items = l.is_array in absurd (cc)); built = λ t f m says. absurd (cc); elements = (refl, refl, refl) }
of_neither now (boolean b) no_object no_array = record { entries = (refl, λ es l. let no : None ≡ Some l.items = l.is_array in absurd (cc)); built = λ t f m says. absurd (cc); elements = (refl, refl, refl) }
of_neither now (number n) no_object no_array = record { entries = (refl, λ es l. let no : None ≡ Some l.items = l.is_array in absurd (cc)); built = λ t f m says. absurd (cc); elements = (refl, refl, refl) }
of_neither now (string s) no_object no_array = record { entries = (refl, λ es l. let no : None ≡ Some l.items = l.is_array in absurd (cc)); built = λ t f m says. absurd (cc); elements = (refl, refl, refl) }
of_neither now (array ds) no_object no_array = absurd (cc)
of_neither now (object ms) no_object no_array = absurd (let no : true ≡ false = no_object in cc)

never_repeats : (j : json.Json) → ((ms : json.Members) → j ≡ json.object ms → ⊥) → false ≡ export_repeats j
never_repeats json.null other = refl
never_repeats (json.boolean b) other = refl
never_repeats (json.number s) other = refl
never_repeats (json.string s) other = refl
never_repeats (json.array js) other = refl
never_repeats (json.object ms) other = absurd (other ms refl)

pub other_form : (now : ℕ) (s : Scalar) (old ts new : List Token) (t : Token) → old ≡ t ∷ ts → t ≢ Token.begin_object → t ≢ Token.begin_array → ReadsSome 127 (λ j d. IsScalar d s) (t ∷ ts) new → ReadsForm now old new no_parts
other_form now s old ts new t first not_object not_array read =
    subst (λ xs. ReadsForm now xs new no_parts) (sym first)
    (other 127 (λ j d. IsScalar d s) (λ j d. TellsParts now d no_parts × (false ≡ export_repeats j)) (t ∷ ts) new
    (λ j d made at is. (
      of_neither now d (no_object_here 127 t ts new j d not_object made at).0 (no_array_here 127 t ts new j d not_array made at).0,
      never_repeats j (λ ms object_is. not_object (object_first 127 t ts new ms (at ∙ ap (λ x. Some (x, new)) object_is))),
    )) read)

same_items : (ds es : Items) → Some ds ≡ Some es → ds ≡ es
same_items ds es e = cc

-- An array whose items have these payloads, or are not all entries
pub list_of : (now : ℕ) (ds : Items) (g : EntryRecords) → IsLasting g → lists.AreEntries ds g.records.items → TellsParts now (array ds) (record { entries = Some (Whole g); built = None; elements = counts.none; repeats = false })
list_of now ds g for_ever are = record { entries = gather_list (array ds) ds now g refl are for_ever; built = λ t e m says. absurd (cc); elements = counts.none_of_an_array ds }

pub no_list_of : (now : ℕ) (ds : Items) → ((vs : List Payload) → ¬ (lists.AreEntries ds vs)) → TellsParts now (array ds) no_parts
no_list_of now ds none = record {
  entries = (refl, λ es l. none l.payloads (subst (λ xs. lists.AreEntries xs l.payloads) (sym (same_items ds l.items l.is_array)) l.listed));
  built = λ t e m says. absurd (cc);
  elements = counts.none_of_an_array ds;
}

pub list_parts_read : (old new : List Token) (o : Option (Vec Payload Global)) (p : ExportMembers) → ReadsRecords old new o → ((now : ℕ) (ds : Items) → Records ds o → TellsParts now (array ds) p) → p.repeats ≡ false → (now : ℕ) → ReadsListParts now old new p
list_parts_read old new o p read parts once now = let r = read.1 in (read.0, (r.0, r.1, (parts now (before r.1 no_items) r.2, once), r.3, r.4))

-- ---- the whole text

pub whole_form : (text : List ℕ) (now : ℕ) (p : ExportMembers) (reader rest : List Token) → reader ≡ tokens text → ReadsForm now reader rest p → rest ≡ [] → ReadsParts now text p
whole_form text now p reader rest whole form over =
    let v = whole_value text reader rest (λ j d. TellsParts now d p × (p.repeats ≡ export_repeats j)) whole form over in
    record { value = v.1; reads = v.3; parts = v.4.0; repeats = of_tree text v.0 p.repeats v.2 v.4.1 }
