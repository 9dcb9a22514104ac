-- A line of the log has one newline, at its end: no text of an event breaks it.
use Rattle.std.proofs.Common.{◌≡◌, ℕ, zero, suc, ◌+◌, ◌/◌, ◌%◌, ◌<◌, ◌==◌, ◌&&◌, ◌||◌, nat_lt, Bool, true, false, cond, if◌then◌else◌, not, bytes_eq, length, List, [], ◌∷◌, ◌++◌, drop, take, flat_map, codes, refl, sym, ap, ◌∙◌, arith, append_assoc}
use Rattle.std.proofs.lemmas.Bool.{and_parts}
use Rattle.std.proofs.lemmas.Bool.Decides.{nat_tests}
use Rattle.std.proofs.lemmas.List.Sums.{sum_by-append, sum_by-cons, sum_by-take-drop}
use Rattle.std.specs.Fmt.{decimal, digits, digits_onto, digit_glyph}
use Rattle.std.specs.Char.{digit_char, encode_utf8, is_control}
use Rattle.std.specs.List.{list_all}
use Rattle.std.specs.Str.{chars}
use Rattle.std.specs.Net.Addr.{octets_of}
use Rattle.std.specs.Net.Text.{compressed_text, dotted_text, groups_text, hex, hex_groups_text, ipv4_text, ipv6_text, leading_zero_digits, longest_zero_run, scope_text, socket_text}
use Rattle.std.specs.declared.net.socket_addr.SocketAddr.{SocketAddr}
use Rattle.std.specs.declared.net.socket_addr.SocketAddr.TheVariants as Socket
use Rattle.event_log.specs.Entries.{Address, Entry, LogValue, Nothing, Number, Text, entries_of, word_of}
use Rattle.event_log.specs.Lines.{end_text, entry_text, escaped, head_text, is_plain, is_plain_byte, json_value, log_char, plain_value, quoted}
use Rattle.event_log.specs.Clock.{time_text}
use Rattle.event_log.specs.declared.event.LogEvent.{LogEvent}
use Rattle.event_log.specs.declared.event.LogEvent.TheVariants as event
use Rattle.event_log.specs.Levels.{level_of, level_word}
use Rattle.event_log.specs.declared.level.LogLevel.{LogLevel}
use Rattle.event_log.specs.declared.level.LogLevel.TheVariants as level
use Rattle.event_log.specs.declared.line.LogFormat.{LogFormat}
use Rattle.event_log.specs.declared.line.LogFormat.TheVariants as form
use Rattle.der_lite.specs.Moments.{CivilMoment, decimals}
use Rattle.log_output.specs.Buffers.{lines_in}
use Rattle.log_output.specs.Logs.{IsLine}

abbrev pub newline : ℕ → ℕ
newline b = cond (b == 10) 1 0

abbrev pub Unbroken : List ℕ → Type 0
Unbroken xs = lines_in xs ≡ 0

-- ---- lists

pub lines-append : (xs ys : List ℕ) → lines_in (xs ++ ys) ≡ lines_in xs + lines_in ys
lines-append xs ys = sum_by-append newline xs ys

pub joined : (xs ys : List ℕ) → Unbroken xs → Unbroken ys → Unbroken (xs ++ ys)
joined xs ys p q = omega (arith, lines-append xs ys, p, q)

pub before : (b : ℕ) (bs : List ℕ) → (b == 10) ≡ false → Unbroken bs → Unbroken (b ∷ bs)
before b bs other p =
    let none : newline b ≡ 0 = ap (λ (t : Bool). cond {A = ℕ} t 1 0) other in
    omega (arith, sum_by-cons newline b bs, none, p)

pub chosen : (c : Bool) (xs ys : List ℕ) → Unbroken xs → Unbroken ys → Unbroken (if c then xs else ys)
chosen true xs ys p q = p
chosen false xs ys p q = q

pub each : {X : Type 0} (f : X → List ℕ) (xs : List X) → ((x : X) → Unbroken (f x)) → Unbroken (flat_map f xs)
each f [] p = refl
each f (x ∷ xs) p = joined (f x) (flat_map f xs) (p x) (each f xs p)

pub dropped : (n : ℕ) (xs : List ℕ) → Unbroken xs → Unbroken (drop n xs)
dropped n xs p = omega (arith, sum_by-take-drop newline xs n, p)

-- ---- digits

other : (b : ℕ) → ¬ (b ≡ 10) → (b == 10) ≡ false
other b h = grind (arith, nat_tests)

glyph_other : (d : ℕ) → (digit_glyph false d == 10) ≡ false
glyph_other d = by (nat_lt d 10)
  where
    by : (t : Bool) → ((if t then 48 + d else 87 + d) == 10) ≡ false
    by true = other (48 + d) (λ e. omega (arith, e))
    by false = other (87 + d) (λ e. omega (arith, e))

hex_other : (d : ℕ) → (digit_char d == 10) ≡ false
hex_other d = by (nat_lt d 10)
  where
    by : (t : Bool) → (cond t (48 + d) (87 + d) == 10) ≡ false
    by true = other (48 + d) (λ e. omega (arith, e))
    by false = other (87 + d) (λ e. omega (arith, e))

digits_on : (k n : ℕ) (acc : List ℕ) → Unbroken acc → Unbroken (digits_onto k 10 false n acc)
digits_on zero n acc p = p
digits_on (suc k) n acc p =
    chosen (n / 10 == 0) _ _ (before _ acc (glyph_other (n % 10)) p) (digits_on k (n / 10) _ (before _ acc (glyph_other (n % 10)) p))

pub number_line : (n : ℕ) → Unbroken (decimal n)
unfolding digits
number_line n = digits_on 64 n [] refl

hex_line : (n : ℕ) → Unbroken (hex n)
unfolding hex
hex_line n =
    dropped (leading_zero_digits n) _
    (four (digit_char (n / 4096)) (digit_char (n / 256 % 16)) (digit_char (n / 16 % 16)) (digit_char (n % 16)) (hex_other _) (hex_other _) (hex_other _) (hex_other _))
  where
    four : (a b c d : ℕ) → (a == 10) ≡ false → (b == 10) ≡ false → (c == 10) ≡ false → (d == 10) ≡ false → Unbroken (a ∷ b ∷ c ∷ d ∷ [])
    four a b c d p q r t = before a (b ∷ c ∷ d ∷ []) p (before b (c ∷ d ∷ []) q (before c (d ∷ []) r (before d [] t refl)))

-- ---- addresses

dotted_line : (a b c d : ℕ) → Unbroken (dotted_text a b c d)
dotted_line a b c d =
    search (joined, number_line) depth 12

groups_line : (segments : List ℕ) → Unbroken (groups_text segments)
groups_line [] = refl
groups_line (s ∷ rest) = joined (hex s) _ (hex_line s) (each (λ t. codes ":" ++ hex t) rest (λ t. joined (codes ":") (hex t) refl (hex_line t)))

compressed_line : (segments : List ℕ) (run : ℕ × ℕ) → Unbroken (compressed_text segments run)
compressed_line segments run =
    chosen (nat_lt 1 run.1) _ _
    (search (joined, groups_line))
    (groups_line segments)

hex_groups_line : (segments : List ℕ) → Unbroken (hex_groups_text segments)
unfolding hex_groups_text
hex_groups_line segments = compressed_line segments (longest_zero_run segments)

ipv6_line : (segments : List ℕ) → Unbroken (ipv6_text segments)
unfolding ipv6_text
ipv6_line segments =
    chosen (bytes_eq (take 6 segments) (0 ∷ 0 ∷ 0 ∷ 0 ∷ 0 ∷ 65535 ∷ [])) _ _
    (joined (codes "::ffff:") (ipv4_text (octets_of (drop 6 segments))) refl (dotted_line _ _ _ _))
    (hex_groups_line segments)

scope_line : (n : ℕ) → Unbroken (scope_text n)
scope_line n = chosen (n == 0) [] _ refl (joined (codes "%") (decimal n) refl (number_line n))

address_line : (a : SocketAddr) → Unbroken (socket_text a)
address_line (Socket.V4 a) = search (joined, dotted_line, number_line)
address_line (Socket.V6 a) = search (joined, ipv6_line, scope_line, number_line) depth 8

-- ---- texts

high : (lead rest : ℕ) (bs : List ℕ) → 10 < lead → Unbroken bs → Unbroken ((lead + rest) ∷ bs)
high lead rest bs more p = before (lead + rest) bs (other (lead + rest) (λ e. omega (arith, e, more))) p

-- the last bytes of a character in UTF-8
abbrev pub last : ℕ → List ℕ
last c = (128 + c % 64) ∷ []

abbrev pub last_two : ℕ → List ℕ
last_two c = (128 + c / 64 % 64) ∷ last c

abbrev pub last_three : ℕ → List ℕ
last_three c = (128 + c / 4096 % 64) ∷ last_two c

is_last : (c : ℕ) → Unbroken (last c)
is_last c = high 128 (c % 64) [] (omega arith) refl

are_last_two : (c : ℕ) → Unbroken (last_two c)
are_last_two c = high 128 (c / 64 % 64) (last c) (omega arith) (is_last c)

are_last_three : (c : ℕ) → Unbroken (last_three c)
are_last_three c = high 128 (c / 4096 % 64) (last_two c) (omega arith) (are_last_two c)

utf8_line : (c : ℕ) → (c == 10) ≡ false → Unbroken (encode_utf8 c)
unfolding encode_utf8
utf8_line c h =
    chosen (nat_lt c 128) _ _ (before c [] h refl)
    (chosen (nat_lt c 2048) _ _ (high 192 (c / 64) (last c) (omega arith) (is_last c))
    (chosen (nat_lt c 65536) _ _ (high 224 (c / 4096) (last_two c) (omega arith) (are_last_two c)) (high 240 (c / 262144) (last_three c) (omega arith) (are_last_three c))))

log_char_line : (c : ℕ) → Unbroken (log_char c)
unfolding log_char
log_char_line c = by (is_control c) refl
  where
    no_newline : is_control c ≡ false → (c == 10) ≡ false
    no_newline h = grind (arith, nat_tests)

    by : (t : Bool) → is_control c ≡ t → Unbroken (if t then codes "\\u00" ++ digit_char (c / 16) ∷ digit_char (c % 16) ∷ [] else encode_utf8 c)
    by true h =
        joined (codes "\\u00") (digit_char (c / 16) ∷ digit_char (c % 16) ∷ []) refl
        (before (digit_char (c / 16)) (digit_char (c % 16) ∷ []) (hex_other (c / 16)) (before (digit_char (c % 16)) [] (hex_other (c % 16)) refl))
    by false h = utf8_line c (no_newline h)

escaped_line : (c : ℕ) → Unbroken (escaped c)
unfolding escaped
escaped_line c = by (c == 34 || c == 92) refl
  where
    is_other : (c == 34 || c == 92) ≡ true → (c == 10) ≡ false
    is_other h = grind (arith, nat_tests)

    by : (t : Bool) → (c == 34 || c == 92) ≡ t → Unbroken (if t then 92 ∷ c ∷ [] else log_char c)
    by true h = before 92 (c ∷ []) refl (before c [] (is_other h) refl)
    by false h = log_char_line c

quoted_line : (s : List ℕ) → Unbroken (quoted s)
unfolding quoted
quoted_line s =
    before 34 (flat_map escaped (chars s) ++ 34 ∷ []) refl (joined (flat_map escaped (chars s)) (34 ∷ []) (each escaped (chars s) escaped_line) refl)

plain_bytes : (s : List ℕ) → list_all is_plain_byte s ≡ true → Unbroken s
plain_bytes [] h = refl
plain_bytes (b ∷ bs) h = before b bs (is_other (both h).0) (plain_bytes bs (both h).1)
  where
    both : (is_plain_byte b && list_all is_plain_byte bs) ≡ true → (is_plain_byte b ≡ true) × (list_all is_plain_byte bs ≡ true)
    both e = and_parts (is_plain_byte b) (list_all is_plain_byte bs) e

    is_other : is_plain_byte b ≡ true → (b == 10) ≡ false
    is_other e = grind (arith, nat_tests)

plain_text_line : (s : List ℕ) → Unbroken (plain_value (Text s))
plain_text_line s = by (is_plain s) refl
  where
    by : (t : Bool) → is_plain s ≡ t → Unbroken (if t then s else quoted s)
    by true h = plain_bytes s (and_parts (not (length s == 0)) (list_all is_plain_byte s) h).1
    by false h = quoted_line s

plain_value_line : (v : LogValue) → Unbroken (plain_value v)
plain_value_line Nothing = refl
plain_value_line (Number n) = number_line n
plain_value_line (Address a) = address_line a
plain_value_line (Text s) = plain_text_line s

json_value_line : (v : LogValue) → Unbroken (json_value v)
json_value_line Nothing = refl
json_value_line (Number n) = number_line n
json_value_line (Address a) = before 34 (socket_text a ++ 34 ∷ []) refl (joined (socket_text a) (34 ∷ []) (address_line a) refl)
json_value_line (Text s) = quoted_line s

-- ---- lines

-- no key breaks a line
abbrev pub AreKeyed : List Entry → Type 0
AreKeyed [] = Unit {0}
AreKeyed (e ∷ es) = Unbroken e.key × AreKeyed es

entry_line : (form : LogFormat) (e : Entry) → Unbroken e.key → Unbroken (entry_text form e)
entry_line form.Text e key = search (joined, plain_value_line, key)
entry_line form.Json e key = search (joined, json_value_line, key)
entry_line form.Systemd e key = search (joined, plain_value_line, key)

entries_line : (form : LogFormat) (es : List Entry) → AreKeyed es → Unbroken (flat_map (entry_text form) es)
entries_line form [] keys = refl
entries_line form (e ∷ es) keys = joined (entry_text form e) _ (entry_line form e keys.0) (entries_line form es keys.1)

level_line : (level : LogLevel) → Unbroken (level_word level)
level_line level.Error = refl
level_line level.Warning = refl
level_line level.Notice = refl
level_line level.Info = refl

head_line : (form : LogFormat) (time : List ℕ) (level : LogLevel) (word : List ℕ) → Unbroken time → Unbroken word → Unbroken (head_text form time level word)
head_line form.Text time level word t w = search (joined, t, w)
head_line form.Json time level word t w = search (joined, t, w, level_line) depth 8
head_line form.Systemd time level word t w = search (joined, t, w, number_line) depth 8

ended : (form : LogFormat) (xs ys : List ℕ) → Unbroken xs → Unbroken ys → lines_in (xs ++ ys ++ end_text form) ≡ 1
ended form.Text xs ys p q = omega (arith, lines-append (xs ++ ys) (codes "\n"), joined xs ys p q)
ended form.Json xs ys p q = omega (arith, lines-append (xs ++ ys) (codes "}\n"), joined xs ys p q)
ended form.Systemd xs ys p q = omega (arith, lines-append (xs ++ ys) (codes "\n"), joined xs ys p q)

digits_line : (count n : ℕ) → Unbroken (decimals count n)
digits_line zero n = refl
digits_line (suc count) n = joined (decimals count (n / 10)) _ (digits_line count (n / 10)) (before (48 + n % 10) [] (other (48 + n % 10) (λ e. omega (arith, e))) refl)

time_line : (m : CivilMoment) → Unbroken (time_text m)
unfolding time_text
time_line m = search (joined, digits_line) depth 16

word_line : (e : LogEvent) → Unbroken (word_of e)
word_line (event.Started names) = refl
word_line (event.Limited clients) = refl
word_line (event.Listening address) = refl
word_line (event.Status address) = refl
word_line event.Ready = refl
word_line (event.ClientCame address) = refl
word_line (event.ClientGone closed) = refl
word_line (event.ErrorReport report) = refl
word_line (event.Stalled address) = refl
word_line (event.Full address clients) = refl
word_line (event.AddressFull address clients) = refl
word_line (event.Suppressed lines seconds) = refl
word_line event.NoDescriptor = refl
word_line (event.Published publication) = refl
word_line (event.LeftOut records) = refl
word_line (event.Refused file reason) = refl
word_line (event.Taken file) = refl
word_line (event.Old file age) = refl
word_line (event.Fresh file age) = refl
word_line (event.Expired file entries) = refl
word_line (event.Clock behind) = refl
word_line (event.VersionRefused address asked) = refl
word_line (event.StatusFull address clients) = refl
word_line (event.NotServed file aspas router_keys) = refl
word_line (event.SlurmNotServed file filters assertions) = refl
word_line (event.Unwell reason) = refl
word_line (event.FileUnwell reason file) = refl
word_line (event.Well reason) = refl
word_line (event.FileWell reason file) = refl
word_line (event.Warning reason) = refl
word_line (event.Memory what) = refl
word_line (event.Failed what reason) = refl
word_line (event.Dropped lines) = refl
word_line (event.Checked files ipv4 ipv6 left_out) = refl
word_line (event.Stopped reason) = refl

keys_of : (e : LogEvent) → AreKeyed (entries_of e)
keys_of (event.Started names) = (refl, (refl, (refl, tt)))
keys_of (event.Limited clients) = (refl, tt)
keys_of (event.Listening address) = (refl, tt)
keys_of (event.Status address) = (refl, tt)
keys_of event.Ready = tt
keys_of (event.ClientCame address) = (refl, tt)
keys_of (event.ClientGone closed) = (refl, (refl, (refl, (refl, (refl, (refl, tt))))))
keys_of (event.ErrorReport report) = (refl, (refl, (refl, (refl, (refl, tt)))))
keys_of (event.Stalled address) = (refl, tt)
keys_of (event.Full address clients) = (refl, (refl, tt))
keys_of (event.AddressFull address clients) = (refl, (refl, tt))
keys_of (event.Suppressed lines seconds) = (refl, (refl, tt))
keys_of event.NoDescriptor = tt
keys_of (event.Published publication) = (refl, (refl, (refl, (refl, (refl, (refl, tt))))))
keys_of (event.LeftOut records) = (refl, tt)
keys_of (event.Refused file reason) = (refl, (refl, tt))
keys_of (event.Taken file) = (refl, tt)
keys_of (event.Old file age) = (refl, (refl, tt))
keys_of (event.Fresh file age) = (refl, (refl, tt))
keys_of (event.Expired file entries) = (refl, (refl, tt))
keys_of (event.Clock behind) = (refl, tt)
keys_of (event.VersionRefused address asked) = (refl, (refl, (refl, (refl, (refl, tt)))))
keys_of (event.StatusFull address clients) = (refl, (refl, (refl, tt)))
keys_of (event.NotServed file aspas router_keys) = (refl, (refl, (refl, tt)))
keys_of (event.SlurmNotServed file filters assertions) = (refl, (refl, (refl, tt)))
keys_of (event.Unwell reason) = (refl, tt)
keys_of (event.FileUnwell reason file) = (refl, (refl, tt))
keys_of (event.Well reason) = (refl, tt)
keys_of (event.FileWell reason file) = (refl, (refl, tt))
keys_of (event.Warning reason) = (refl, tt)
keys_of (event.Memory what) = (refl, tt)
keys_of (event.Failed what reason) = (refl, (refl, tt))
keys_of (event.Dropped lines) = (refl, tt)
keys_of (event.Checked files ipv4 ipv6 left_out) = (refl, (refl, (refl, (refl, tt))))
keys_of (event.Stopped reason) = (refl, tt)

pub one_line : (format : LogFormat) (seconds : ℕ) (event : LogEvent) (line : List ℕ) → IsLine format seconds event line → lines_in line ≡ 1
one_line format seconds event line is =
    ap lines_in is.2
    ∙ ended format (head_text format (time_text is.0) (level_of event) (word_of event)) (flat_map (entry_text format) (entries_of event)) (head_line format (time_text is.0) (level_of event) (word_of event) (time_line is.0) (word_line event)) (entries_line format (entries_of event) (keys_of event))

-- ---- its newline is at its end

closing : (form : LogFormat) (xs ys : List ℕ) → Unbroken xs → Unbroken ys → (body : List ℕ) × Unbroken body × (xs ++ ys ++ end_text form ≡ body ++ 10 ∷ [])
closing form.Text xs ys p q = (xs ++ ys, joined xs ys p q, refl)
closing form.Systemd xs ys p q = (xs ++ ys, joined xs ys p q, refl)
closing form.Json xs ys p q =
    (xs ++ ys ++ codes "}", joined (xs ++ ys) (codes "}") (joined xs ys p q) refl, sym (append_assoc (xs ++ ys) (codes "}") (10 ∷ [])))

-- a line without its newline
pub record Ended (line : List ℕ) : Type 0 where
  pub body : List ℕ
  pub unbroken : Unbroken body
  pub ends : line ≡ body ++ 10 ∷ []

pub ended_line : (format : LogFormat) (seconds : ℕ) (event : LogEvent) (line : List ℕ) → IsLine format seconds event line → Ended line
ended_line format seconds event line is =
    let parts =
    closing format (head_text format (time_text is.0) (level_of event) (word_of event)) (flat_map (entry_text format) (entries_of event)) (head_line format (time_text is.0) (level_of event) (word_of event) (time_line is.0) (word_line event)) (entries_line format (entries_of event) (keys_of event)) in
    record { body = parts.0; unbroken = parts.1; ends = is.2 ∙ parts.2 }
