use Rattle.text.proofs.put.TextBuffer.+put_hexadecimal.Given as goal

-- proposed from what the function passes where it calls itself
abbrev pub decreases-put_hexadecimal : goal.decreases-put_hexadecimal
decreases-put_hexadecimal l = l.digits
