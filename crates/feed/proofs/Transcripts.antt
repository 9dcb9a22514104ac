-- What a router keeps that read a beginning of one answer, and nothing else (RFC 8210 sections 5.6, 5.8 and 8.1).
use Rattle.std.specs.Prelude.{◌≡◌, ◌⊎◌, ℕ, Bool, true, false, ◌||◌, ◌==◌, List, [], ◌∷◌, ◌++◌, length, map, Option, Some, None, if◌then◌else◌, refl, ⊤}
use Rattle.std.proofs.Common.{sym, ap, ◌∙◌, subst, append_assoc, append-nil, arith, inl, inr}
use Rattle.std.proofs.lemmas.List.{length-append}
use Rattle.std.specs.Ordering.{eq_by_cmp}
use Rattle.prefixes.specs.Payload.{Payload, vrp_cmp}
use Rattle.vrps.specs.VrpSet.{SameMembers, VrpSet, empty, listing}
use Rattle.rtr_pdu.specs.declared.unit.Unit.{Unit}
use Rattle.rtr_pdu.specs.declared.version.Version.{Version}
use Rattle.rtr_pdu.specs.declared.unit.Unit.TheVariants.{CacheResponse, Prefix, EndOfData}
use Rattle.rtr_ends.specs.Consumed.{units_read_in}
use Rattle.rtr_ends.specs.RouterLink.{name_of}
use Rattle.rtr_ends.specs.Configuration.{chosen}
use Rattle.rtr_ends.specs.declared.configuration.RouterConfig.{RouterConfig}
use Rattle.rtr_ends.specs.Transcript.{AskReset, AskSerial, Asks, At, Begun, Breaks, Committed, Configured, Item, Kept, Lacks, Opened, Question, Reads, Refused, Restarts, Shut, acts_once, at_end_of_data, base_of, begun, bounded, configured, emptied_if, is_among, is_over, is_wrong, kept, later, led_to, moment, nothing, of_version, spoken, under_way, waiting, with_record}
use Rattle.feed.proofs.Sets.{led_from_nothing}
use Rattle.prefixes.proofs.Basics.{or_swap}

abbrev announced : Payload → Unit
announced v = Prefix true v

-- the PDUs of the answer with these records
abbrev pub last : Unit
last = EndOfData 1 0 3600 600 7200

abbrev pub answer_units : List Payload → List Unit
answer_units vs = CacheResponse 1 ∷ map announced vs ++ last ∷ []

-- One connection was made, by a router that kept nothing.
abbrev pub OneConnection : List Item → Type 0
OneConnection [] = ⊥
OneConnection (Opened version ∷ items) = kept items ≡ nothing
OneConnection (Restarts ∷ items) = ⊥
OneConnection (item ∷ items) = OneConnection items

-- ---- single steps

emptied : (b : Bool) (k : Kept) → k ≡ nothing → emptied_if b k ≡ nothing
emptied true k e = refl
emptied false k e = e

listed_more : (q v : Payload) (vs : List Payload) → is_among q (vs ++ v ∷ []) ≡ is_among q (v ∷ vs)
listed_more q v [] = refl
listed_more q v (w ∷ vs) = ap (λ b. eq_by_cmp vrp_cmp q w || b) (listed_more q v vs) ∙ or_swap (eq_by_cmp vrp_cmp q w) (eq_by_cmp vrp_cmp q v) (is_among q vs)

-- An answer that has begun, if any has, has these records announced.
abbrev Begins : List Payload → Option Begun → Type 0
Begins vs None = ⊤
Begins vs (Some a) = (a.withdrawn ≡ []) × ((q : Payload) → is_among q a.announced ≡ is_among q vs)

begins_begun : (question : Option Question) → Begins [] (begun question 1)
begins_begun None = tt
begins_begun (Some question) = (refl, λ q. refl)

begins_more : (vs : List Payload) (v : Payload) (answer : Option Begun) → Begins vs answer → Begins (vs ++ v ∷ []) (with_record true v answer)
begins_more vs v None h = tt
begins_more vs v (Some a) h = (h.0, λ q. ap (λ b. eq_by_cmp vrp_cmp q v || b) (h.1 q) ∙ sym (listed_more q v vs))

-- Nothing is kept, or what these records lead to from nothing.
abbrev pub Ends : List Payload → Kept → Type 0
Ends vs k = (k ≡ nothing) ⊎ ((ws : List Payload) × (k.table ≡ led_to empty [] ws) × ((q : Payload) → is_among q ws ≡ is_among q vs))

base_is : (question : Question) (table : VrpSet) → table ≡ empty → base_of question table ≡ empty
base_is AskReset table e = refl
base_is (AskSerial session serial) table e = e

ends : (vs : List Payload) (answer : Option Begun) (version : Committed) (k : Kept) → k ≡ nothing → Begins vs answer → Ends vs (at_end_of_data answer version k)
ends vs None version k none h = inl none
ends vs (Some a) version k none h = by_tests (version.session == a.session) (acts_once (base_of a.question k.table) a.withdrawn a.announced)
  where
    by_tests : (same acts : Bool) → Ends vs (if same then (if acts then record { version = Some version; table = led_to (base_of a.question k.table) a.withdrawn a.announced; before = k.table } else k) else nothing)
    by_tests true true = inr (a.announced, (λ i. led_to (base_is a.question k.table (ap (λ (x : Kept). x.table) none) i) (h.0 i) a.announced), h.1)
    by_tests true false = inl none
    by_tests false acts = inl refl

ends_emptied : (vs : List Payload) (b : Bool) (k : Kept) → Ends vs k → Ends vs (emptied_if b k)
ends_emptied vs true k h = inl refl
ends_emptied vs false k h = h

-- ---- a beginning of the answer

module _ (vs : List Payload) where
  -- These of its PDUs came, and so far it was kept.
  data Came (items : List Item) (done : List Unit) : Type 0 where
    none : done ≡ [] → kept items ≡ nothing → under_way items ≡ None → Came items done
    some : (front back : List Payload) → vs ≡ front ++ back → done ≡ CacheResponse 1 ∷ map announced front → kept items ≡ nothing → Begins front (under_way items) → Came items done
    all : done ≡ answer_units vs → Ends vs (kept items) → Came items done

  -- Nothing is changed but that an answer may be dropped.
  drops : (items new : List Item) (done : List Unit) → kept new ≡ kept items → under_way new ≡ None → Came items done → Came new done
  drops items new done same way (none is nothing_kept no_way) = none is (same ∙ nothing_kept) way
  drops items new done same way (some front back parts is nothing_kept answer) = some front back parts is (same ∙ nothing_kept) (subst (Begins front) (sym way) tt)
  drops items new done same way (all is h) = all is (subst (Ends vs) (sym same) h)

  -- The clock advances to a moment.
  ticks : (now : ℕ) (items : List Item) (done : List Unit) → Came items done → Came (At now ∷ items) done
  ticks now items done (none is nothing_kept no_way) = none is (emptied (is_over (kept items).version (later (moment items) now)) (kept items) nothing_kept) no_way
  ticks now items done (some front back parts is nothing_kept answer) = some front back parts is (emptied (is_over (kept items).version (later (moment items) now)) (kept items) nothing_kept) answer
  ticks now items done (all is h) = all is (ends_emptied vs (is_over (kept items).version (later (moment items) now)) (kept items) h)

  -- A configuration is set.
  configures : (config : RouterConfig) (items : List Item) (done : List Unit) → Came items done → Came (Configured config ∷ items) done
  configures config items done (none is nothing_kept no_way) = none is nothing_kept no_way
  configures config items done (some front back parts is nothing_kept answer) = some front back parts is nothing_kept answer
  configures config items done (all is h) = all is h

  -- What a PDU does that comes next in the answer
  record Steps (items : List Item) (u : Unit) (new : List Item) : Type 0 where
    first : u ≡ CacheResponse 1 → kept items ≡ nothing → (kept new ≡ nothing) × Begins [] (under_way new)
    next : (front : List Payload) (v : Payload) → u ≡ announced v → kept items ≡ nothing → Begins front (under_way items) → (kept new ≡ nothing) × Begins (front ++ v ∷ []) (under_way new)
    end : u ≡ last → kept items ≡ nothing → Begins vs (under_way items) → Ends vs (kept new)

  reads : (items : List Item) (u : Unit) → Steps items u (Reads u ∷ items)
  reads items u = record {
    first = λ is gone. subst (λ x. (kept (Reads x ∷ items) ≡ nothing) × Begins [] (under_way (Reads x ∷ items))) (sym is) (emptied (is_wrong (waiting items) (of_version (spoken items) (kept items).version) 1) (kept items) gone, begins_begun (waiting items));
    next = λ front v is gone h. subst (λ x. (kept (Reads x ∷ items) ≡ nothing) × Begins (front ++ v ∷ []) (under_way (Reads x ∷ items))) (sym is) (gone, begins_more front v (under_way items) h);
    end = λ is gone h. subst (λ x. Ends vs (kept (Reads x ∷ items))) (sym is) (ends vs (under_way items) (record { version = spoken items; session = 1; serial = 0; moment = moment items; intervals = chosen (configured items) (bounded 3600 600 7200) }) (kept items) gone h);
  }

  lacks : (items : List Item) (u : Unit) → Steps items u (Lacks u ∷ items)
  lacks items u = record { first = λ is gone. (gone, tt); next = λ front v is gone h. (gone, tt); end = λ is gone h. inl gone }

  first_of : (u v : Unit) (us ws : List Unit) → u ∷ us ≡ v ∷ ws → u ≡ v
  first_of u v us ws e = cc

  rest_of : (u v : Unit) (us ws : List Unit) → u ∷ us ≡ v ∷ ws → us ≡ ws
  rest_of u v us ws e = cc

  behind : (front back : List Payload) (us : List Unit) → map announced front ++ us ≡ map announced (front ++ back) ++ last ∷ [] → us ≡ map announced back ++ last ∷ []
  behind [] back us e = e
  behind (v ∷ front) back us e = behind front back us (rest_of (announced v) (announced v) (map announced front ++ us) (map announced (front ++ back) ++ last ∷ []) e)

  mapped : (front : List Payload) (v : Payload) → map announced front ++ announced v ∷ [] ≡ map announced (front ++ v ∷ [])
  mapped [] v = refl
  mapped (w ∷ front) v = ap (λ l. announced w ∷ l) (mapped front v)

  steps : (items new : List Item) (u : Unit) (done more : List Unit) → Steps items u new → done ++ u ∷ more ≡ answer_units vs → Came items done → Came new (done ++ u ∷ [])
  steps items new u done more s e (none is nothing_kept no_way) =
      let u_is : u ≡ CacheResponse 1 = first_of u (CacheResponse 1) more (map announced vs ++ last ∷ []) (ap (λ l. l ++ u ∷ more) (sym is) ∙ e) in
      let after = s.first u_is nothing_kept in
      some [] vs refl ((λ i. is i ++ u_is i ∷ [])) after.0 after.1
  steps items new u done more s e (some front back parts is nothing_kept answer) = by_back back parts (behind front back (u ∷ more) inner)
    where
      outer : CacheResponse 1 ∷ (map announced front ++ u ∷ more) ≡ CacheResponse 1 ∷ (map announced (front ++ back) ++ last ∷ [])
      outer = ap (λ l. l ++ u ∷ more) (sym is) ∙ e ∙ ap answer_units parts

      inner : map announced front ++ u ∷ more ≡ map announced (front ++ back) ++ last ∷ []
      inner = rest_of (CacheResponse 1) (CacheResponse 1) (map announced front ++ u ∷ more) (map announced (front ++ back) ++ last ∷ []) outer

      by_back : (back : List Payload) → vs ≡ front ++ back → u ∷ more ≡ map announced back ++ last ∷ [] → Came new (done ++ u ∷ [])
      by_back [] parts left =
          let whole : vs ≡ front = parts ∙ append-nil front in
          let u_is : u ≡ last = first_of u last more [] left in
          all (λ i. (is ∙ ap (λ l. CacheResponse 1 ∷ map announced l) (sym whole)) i ++ u_is i ∷ []) (s.end u_is nothing_kept (subst (λ l. Begins l (under_way items)) (sym whole) answer))
      by_back (v ∷ back) parts left =
          let u_is : u ≡ announced v = first_of u (announced v) more (map announced back ++ last ∷ []) left in
          let after = s.next front v u_is nothing_kept answer in
          some (front ++ v ∷ []) back (parts ∙ sym (append_assoc front (v ∷ []) back)) ((λ i. is i ++ u_is i ∷ []) ∙ ap (λ l. CacheResponse 1 ∷ l) (mapped front v)) after.0 after.1
  steps items new u done more s e (all is h) =
      let size : length (done ++ u ∷ more) ≡ length done = ap length (e ∙ sym is) in
      absurd (omega (arith, size, length-append done (u ∷ more)))

  came : (items : List Item) (more : List Unit) → OneConnection items → units_read_in items ++ more ≡ answer_units vs → Came items (units_read_in items)
  came [] more one e = absurd one
  came (At now ∷ items) more one e = ticks now items (units_read_in items) (came items more one e)
  came (Opened version ∷ items) more one e = none refl one refl
  came (Asks question ∷ items) more one e = drops items (Asks question ∷ items) (units_read_in items) refl refl (came items more one e)
  came (Reads u ∷ items) more one e =
      let before = sym (append_assoc (units_read_in items) (u ∷ []) more) ∙ e in
      steps items (Reads u ∷ items) u (units_read_in items) more (reads items u) before (came items (u ∷ more) one before)
  came (Lacks u ∷ items) more one e =
      let before = sym (append_assoc (units_read_in items) (u ∷ []) more) ∙ e in
      steps items (Lacks u ∷ items) u (units_read_in items) more (lacks items u) before (came items (u ∷ more) one before)
  came (Breaks fault ∷ items) more one e = drops items (Breaks fault ∷ items) (units_read_in items) refl refl (came items more one e)
  came (Refused ∷ items) more one e = drops items (Refused ∷ items) (units_read_in items) refl refl (came items more one e)
  came (Shut ∷ items) more one e = drops items (Shut ∷ items) (units_read_in items) refl refl (came items more one e)
  came (Restarts ∷ items) more one e = absurd one
  came (Configured config ∷ items) more one e = configures config items (units_read_in items) (came items more one e)

not_nothing : {A : Type 0} (k : Kept) (name : Version × ℕ × ℕ) → name_of k.version ≡ Some name → k ≡ nothing → A
not_nothing k name e gone = absurd (let h : None ≡ Some name = sym (ap (λ (x : Kept). name_of x.version) gone) ∙ e in cc)

-- A router that holds a version then holds the records of the answer.
pub holds : SameMembers → (set : VrpSet) (items : List Item) (more : List Unit) → OneConnection items → units_read_in items ++ more ≡ answer_units (listing set)
    → (name : Version × ℕ × ℕ) → name_of (kept items).version ≡ Some name → (kept items).table ≡ set
holds same set items more one e name named = by_place (came (listing set) items more one e)
  where
    by_end : Ends (listing set) (kept items) → (kept items).table ≡ set
    by_end (inl gone) = not_nothing (kept items) name named gone
    by_end (inr led) = led.1 ∙ led_from_nothing same set led.0 led.2

    by_place : Came (listing set) items (units_read_in items) → (kept items).table ≡ set
    by_place (none is none_kept no_way) = not_nothing (kept items) name named none_kept
    by_place (some front back parts is none_kept answer) = not_nothing (kept items) name named none_kept
    by_place (all is h) = by_end h
