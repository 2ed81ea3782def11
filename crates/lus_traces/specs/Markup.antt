-- Texts within HTML and SVG.
use Rattle.std.specs.Prelude.{◌==◌, ℕ, chars, flat_map, codes, encode_utf8, if◌then◌else◌}
use Rattle.lus_values.specs.Names.{Text}

-- a character as it stands in markup, where zero can't (HTML Living Standard, 13.1.4, character references, and 13.2.3.5, preprocessing)
abbrev pub escape : ℕ → Text
escape c =
    if c == 60 then codes "&lt;" else (
    if c == 62 then codes "&gt;" else (
    if c == 38 then codes "&amp;" else (
    if c == 34 then codes "&quot;" else (
    if c == 13 then codes "&#13;" else (
    if c == 0 then encode_utf8 0xFFFD else encode_utf8 c)))))

-- a text in which no character is read as markup
abbrev pub escaped : Text → Text
escaped t = flat_map escape (chars t)
