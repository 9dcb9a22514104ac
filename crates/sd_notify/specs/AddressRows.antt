-- Addresses of notification sockets, worked out.
use Rattle.std.specs.Prelude.{◌≡◌, ◌∷◌, [], codes, Some, None, refl}
use Rattle.sd_notify.specs.Addresses.{socket_address}

of_systemd : socket_address (codes "/run/n") ≡ Some (1 ∷ 0 ∷ 47 ∷ 114 ∷ 117 ∷ 110 ∷ 47 ∷ 110 ∷ 0 ∷ [])
of_systemd = refl

in_the_abstract_namespace : socket_address (codes "@n") ≡ Some (1 ∷ 0 ∷ 0 ∷ 110 ∷ [])
in_the_abstract_namespace = refl

the_root : socket_address (codes "/") ≡ None
the_root = refl

no_name : socket_address (codes "@") ≡ None
no_name = refl

nothing : socket_address [] ≡ None
nothing = refl

a_relative_path : socket_address (codes "run/n") ≡ None
a_relative_path = refl
