-- What a byte string says as a drawing file: the drawing, or the refusal of the first fault in byte order. SCOPE 10.1: "Big-endian: version byte 1; a 32-bit count of segments, each net (32 bits), orientation byte, then fixed, start, end as 64-bit float bits; a 32-bit count of nodes, each id (32 bits), x, y, width, height; a 32-bit count of exemptions, each net and node; threshold, cutoff; three 64-bit allowances (clearance, separation, congestion)."
use Rattle.std.specs.Prelude.{cond, List, [], ◌∷◌, ℕ, zero, suc, ◌+◌, ◌*◌, leb, ltb, eqb, Float, length, take, drop}
use Rattle.std.specs.Float.{binary64}
use Rattle.std.specs.Float.Ieee.{of_bits}
use Rattle.drawing.specs.declared.refusal.Refusal.{Refusal}
use Rattle.drawing.specs.declared.refusal.Refusal.TheVariants.{MalformedFile, TooManyEntries}
use Rattle.drawing.specs.declared.lists.Segment.{Segment}
use Rattle.drawing.specs.Entries.{Node, Exemption}

-- the outcome of reading a part: what the part says and the bytes after it, or the refusal. SCOPE 10.2: "Within the file the first fault in byte order counts": a part is read from the end of the one before it, and only if that one had no fault.
pub data Read (A : Type 0) : Type 0 where
  got : A → List ℕ → Read A
  refused : Refusal → Read A

unfoldable pub then : {A B : Type 0} → Read A → (A → List ℕ → Read B) → Read B
then (got a l) next = next a l
then (refused r) next = refused r

-- the number n continued by bytes, the most significant byte first
unfoldable pub big_endian : ℕ → List ℕ → ℕ
big_endian n [] = n
big_endian n (b ∷ l) = big_endian (256 * n + b) l

-- a number of k bytes; SCOPE 7.1: "bytes missing" is refusal 1
unfoldable pub number : ℕ → List ℕ → Read ℕ
number k l = cond (leb k (length l)) (got (big_endian 0 (take k l)) (drop k l)) (refused MalformedFile)

-- SCOPE 10.1, 10.3: "64-bit float bits"; the bits of a NaN are read as a NaN
unfoldable pub float : List ℕ → Read Float
float l = then (number 8 l) (λ n rest. got (of_bits binary64 n) rest)

-- SCOPE 7.1: "The file has a wrong version": the one version is 1
unfoldable pub version_byte : List ℕ → Read ℕ
version_byte l = then (number 1 l) (λ n rest. cond (eqb n 1) (got n rest) (refused MalformedFile))

-- SCOPE 7.1: "an orientation byte above 1"
unfoldable pub orientation : List ℕ → Read ℕ
orientation l = then (number 1 l) (λ n rest. cond (ltb 1 n) (refused MalformedFile) (got n rest))

unfoldable pub segment : List ℕ → Read Segment
segment l =
    then (number 4 l) (λ n l1.
    then (orientation l1) (λ o l2.
    then (float l2) (λ f l3.
    then (float l3) (λ s l4.
    then (float l4) (λ e l5.
    got (record { net = n; orientation = o; fixed = f; start = s; end = e }) l5)))))

unfoldable pub node : List ℕ → Read Node
node l =
    then (number 4 l) (λ i l1.
    then (float l1) (λ x l2.
    then (float l2) (λ y l3.
    then (float l3) (λ w l4.
    then (float l4) (λ h l5.
    got (record { id = i; x = x; y = y; width = w; height = h }) l5)))))

unfoldable pub exemption : List ℕ → Read Exemption
exemption l =
    then (number 4 l) (λ n l1.
    then (number 4 l1) (λ m l2.
    got (record { net = n; node = m }) l2))

-- n entries in sequence
unfoldable pub entries : {A : Type 0} → (List ℕ → Read A) → ℕ → List ℕ → Read (List A)
entries entry zero l = got [] l
entries entry (suc n) l =
    then (entry l) (λ a l1.
    then (entries entry n l1) (λ rest l2.
    got (a ∷ rest) l2))

-- a list after its count. SCOPE 10.2: "a count above the program's limit being 3"
unfoldable pub counted : {A : Type 0} → ℕ → (List ℕ → Read A) → List ℕ → Read (List A)
counted limit entry l = then (number 4 l) (λ n rest. cond (ltb limit n) (refused TooManyEntries) (entries entry n rest))

-- SCOPE 10.1: "threshold, cutoff; three 64-bit allowances (clearance, separation, congestion)"
pub record Settings : Type 0 where
  pub threshold : Float
  pub cutoff : Float
  pub clearance : ℕ
  pub separation : ℕ
  pub congestion : ℕ

unfoldable pub settings : List ℕ → Read Settings
settings l =
    then (float l) (λ t l1.
    then (float l1) (λ c l2.
    then (number 8 l2) (λ a l3.
    then (number 8 l3) (λ b l4.
    then (number 8 l4) (λ d l5.
    got (record { threshold = t; cutoff = c; clearance = a; separation = b; congestion = d }) l5)))))

pub record Drawing : Type 0 where
  pub segments : List Segment
  pub nodes : List Node
  pub exemptions : List Exemption
  pub settings : Settings

-- the parts in their order. SCOPE 7.3: "in the program more than 120 segments, 120 nodes or 240 exemptions"
unfoldable pub parts : List ℕ → Read Drawing
parts l =
    then (version_byte l) (λ v l1.
    then (counted 120 segment l1) (λ ss l2.
    then (counted 120 node l2) (λ ns l3.
    then (counted 240 exemption l3) (λ es l4.
    then (settings l4) (λ s l5.
    got (record { segments = ss; nodes = ns; exemptions = es; settings = s }) l5)))))

-- SCOPE 7.1: "bytes left over" is refusal 1
unfoldable pub ended : {A : Type 0} → A → List ℕ → Read A
ended a [] = got a []
ended a (b ∷ l) = refused MalformedFile

unfoldable pub read : List ℕ → Read Drawing
read l = then (parts l) ended
