-- An image file keeps a core: for each storage word a record of three bytes, in order of address, and nothing else.
-- A record is the flags, which are the protect bit plus twice the parity bit; the high byte of the data; the low byte.
use Rattle.std.specs.Prelude.{◌≡◌, ℕ, ◌+◌, ◌*◌, ◌/◌, ◌%◌, Bool, true, if◌then◌else◌, ◌&&◌, List, [], ◌∷◌, ◌++◌, map, length, Ok, Err, Result, ◌==◌, nat_le}
use Rattle.refusal.specs.declared.Refusal.{Refusal}
use Rattle.refusal.specs.declared.Refusal.TheVariants.{Length, ImageByte}
use Rattle.storage.specs.Word.{eighteen, data_of, protect_bit, parity_bit}
use Rattle.storage.specs.Memory.{core_size}

-- a record, and the word of one; the parity bit is taken over and not looked at
abbrev pub record_of : ℕ → List ℕ
record_of w = (protect_bit w + 2 * parity_bit w) ∷ ((data_of w / 256) ∷ ((data_of w % 256) ∷ []))

abbrev pub record_word : ℕ → ℕ → ℕ → ℕ
record_word flags high low = flags * 65536 + high * 256 + low

-- the file of these words, and the words of a file
abbrev pub bytes_of : List ℕ → List ℕ
bytes_of [] = []
bytes_of (w ∷ ws) = record_of w ++ bytes_of ws

abbrev pub words_of : List ℕ → List ℕ
words_of [] = []
words_of (flags ∷ []) = []
words_of (flags ∷ (high ∷ [])) = []
words_of (flags ∷ (high ∷ (low ∷ rest))) = record_word flags high low ∷ words_of rest

-- each record's flags are at most 3
abbrev pub all_flags_fit : List ℕ → Bool
all_flags_fit [] = true
all_flags_fit (flags ∷ []) = true
all_flags_fit (flags ∷ (high ∷ [])) = true
all_flags_fit (flags ∷ (high ∷ (low ∷ rest))) = nat_le flags 3 && all_flags_fit rest

-- a core of n words may be kept in a file of so many bytes
abbrev pub fits : ℕ → ℕ → Bool
fits n bytes = core_size n && bytes == 3 * n

-- Decoding into a core of n words: refused by length, which is 1, and then by flags, which is 8.
abbrev pub decoding : List ℕ → ℕ → Result (Unit {0}) Refusal
decoding image n = if fits n (length image) then (if all_flags_fit image then Ok tt else Err ImageByte) else Err Length

abbrev pub after_decoding : Result (Unit {0}) Refusal → List ℕ → List ℕ → List ℕ
after_decoding (Ok u) image core = words_of image
after_decoding (Err e) image core = core

-- Encoding a core of n words into a buffer of so many bytes: refused by length, which is 1.
abbrev pub encoding : ℕ → ℕ → Result (Unit {0}) Refusal
encoding n bytes = if fits n bytes then Ok tt else Err Length

abbrev pub after_encoding : Result (Unit {0}) Refusal → List ℕ → List ℕ → List ℕ
after_encoding (Ok u) core buffer = bytes_of core
after_encoding (Err e) core buffer = buffer

-- The two round trips. A file that decoded into this core is the file that the core encodes to; and the file that a
-- core was encoded to decodes into the same eighteen-bit words.
abbrev pub SameFile : Result (Unit {0}) Refusal → List ℕ → List ℕ → Type 0
SameFile r image core = r ≡ Ok tt → (encoding (length core) (length image) ≡ Ok tt) × (bytes_of core ≡ image)

abbrev pub SameWords : Result (Unit {0}) Refusal → List ℕ → List ℕ → Type 0
SameWords r core image = r ≡ Ok tt → (decoding image (length core) ≡ Ok tt) × (words_of image ≡ map eighteen core)
