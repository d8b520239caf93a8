-- The image of a function that pushes, calls another one, and returns:
--     8000  STMDB r13!,{r4,r14}
--     8004  BL 800C
--     8008  LDMIA r13!,{r4,r15}
-- and of the one that it calls, which adds 1 to r0:
--     800C  ADD r0,r0,#1
--     8010  BX r14
use Rattle.std.specs.Prelude.{[], ◌∷◌}
use Rattle.elf32_image.specs.Parts.{ImageValue}

abbrev pub example_image : ImageValue
example_image = record {
  segments = record {
    address = 0x8000;
    bytes = 16 ∷ 64 ∷ 45 ∷ 233 ∷ 0 ∷ 0 ∷ 0 ∷ 235 ∷ 16 ∷ 128 ∷ 189 ∷ 232 ∷ 1 ∷ 0 ∷ 128 ∷ 226 ∷ 30 ∷ 255 ∷ 47 ∷ 225 ∷ [];
    size = 20;
    flags = 5;
  } ∷ [];
  functions = [];
}

-- The image of a function that calls another one twice:
--     8000  STMDB r13!,{r4,r14}
--     8004  BL 8010
--     8008  BL 8010
--     800C  LDMIA r13!,{r4,r15}
-- and of the one that it calls:
--     8010  ADD r0,r0,#1
--     8014  BX r14
abbrev pub two_calls_image : ImageValue
two_calls_image = record {
  segments = record {
    address = 0x8000;
    bytes = 16 ∷ 64 ∷ 45 ∷ 233 ∷ 1 ∷ 0 ∷ 0 ∷ 235 ∷ 0 ∷ 0 ∷ 0 ∷ 235
        ∷ 16 ∷ 128 ∷ 189 ∷ 232 ∷ 1 ∷ 0 ∷ 128 ∷ 226 ∷ 30 ∷ 255 ∷ 47 ∷ 225 ∷ [];
    size = 24;
    flags = 5;
  } ∷ [];
  functions = [];
}
