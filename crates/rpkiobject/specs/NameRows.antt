-- Characters of names, worked out.
use Rattle.std.specs.Prelude.{◌≡◌, [], ◌∷◌, codes, refl}
use Rattle.std.specs.Char.{encode_utf8}
use Rattle.rpkiobject.specs.Names.{visible, escaped}

newline : escaped 10 ≡ codes "\\u000a"
unfolding escaped visible
newline = refl

escape : escaped 27 ≡ codes "\\u001b"
unfolding escaped visible
escape = refl

last_low : escaped 31 ≡ codes "\\u001f"
unfolding escaped visible
last_low = refl

blank : escaped 32 ≡ 32 ∷ []
unfolding escaped visible encode_utf8
blank = refl

delete : escaped 127 ≡ codes "\\u007f"
unfolding escaped visible
delete = refl

last_high : escaped 159 ≡ codes "\\u009f"
unfolding escaped visible
last_high = refl

behind_controls : escaped 160 ≡ 194 ∷ 160 ∷ []
unfolding escaped visible encode_utf8
behind_controls = refl

quote : escaped 34 ≡ codes "\\\""
unfolding escaped
quote = refl

backslash : escaped 92 ≡ codes "\\\\"
unfolding escaped
backslash = refl
