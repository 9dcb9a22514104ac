-- Sessions and serials, worked out.
use Rattle.std.specs.Prelude.{◌≡◌, ◌∷◌, [], codes, false, true, refl}
use Rattle.session_names.specs.Names.{first_serial, session0_of, joined, front_of, is_machine_id}

last_serial : first_serial 4294967295 ≡ 4294967295
last_serial = refl

goes_round : first_serial 4294967296 ≡ 0
goes_round = refl

last_session : session0_of 65535 ≡ 65535
last_session = refl

sessions_go_round : session0_of 65536 ≡ 0
sessions_go_round = refl

-- a byte more in one part is not one in the next
lengths_come_first :
    joined (codes "ab") [] (codes "c") (codes "d")
    ≡ 0 ∷ 0 ∷ 0 ∷ 0 ∷ 0 ∷ 0 ∷ 0 ∷ 2 ∷ 97 ∷ 98 ∷ 0 ∷ 0 ∷ 0 ∷ 0 ∷ 0 ∷ 0 ∷ 0 ∷ 0 ∷ 0 ∷ 0 ∷ 0 ∷ 0 ∷ 0 ∷ 0 ∷ 0 ∷ 1 ∷ 99 ∷ 0 ∷ 0 ∷ 0 ∷ 0 ∷ 0 ∷ 0 ∷ 0 ∷ 1 ∷ 100 ∷ []
lengths_come_first = refl

high_first : front_of (85 ∷ 198 ∷ 7 ∷ []) ≡ 21958
high_first = refl

-- an empty file, a newline alone, and a file before the end of the first boot are no machine id
empty_names_none : is_machine_id [] ≡ false
empty_names_none = refl

newline_names_none : is_machine_id (codes "\n") ≡ false
newline_names_none = refl

unset_names_none : is_machine_id (codes "uninitialized\n") ≡ false
unset_names_none = refl

unset_without_newline : is_machine_id (codes "uninitialized") ≡ false
unset_without_newline = refl

a_machine_id : is_machine_id (codes "0123456789abcdef0123456789abcdef\n") ≡ true
a_machine_id = refl
