mod Narrows
